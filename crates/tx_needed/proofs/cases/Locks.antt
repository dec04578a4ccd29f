-- What a prewrite may not overlook: reads, rollbacks and marks, other commits, a collection, a
-- value where it inserts, and another lock.
use Rattle.std.proofs.Common.{◌≡◌, ℕ, inl, inr, [], ◌∷◌, Some, None, refl, ap, arith}
use Rattle.tx_types.specs.declared.mutation.Mutation.TheVariants.{Put, Insert, Lock as Locks}
use Rattle.tx_types.specs.declared.value.Value.{Value}
use Rattle.tx_types.specs.declared.mutation.Mutation.{Mutation}
use Rattle.tx_plan.specs.declared.body.Body.TheVariants as body
use Rattle.tx_plan.specs.declared.body.Prewrite.{Prewrite}
use Rattle.tx_plan.specs.declared.answer.Answer.TheVariants as reply
use Rattle.tx_plan.specs.Cells.{Write, CommitRecord, CommitOf, Rollback}
use Rattle.tx_machine.specs.declared.step.Step.TheVariants as step
use Rattle.tx_core.specs.declared.event.Declaration.{Declaration}
use Rattle.tx_core.specs.declared.event.Event.TheVariants.{Drawn, Answered, Took}
use Rattle.tx_core.specs.declared.event.Outcome.TheVariants as outcome
use Rattle.tx_core.specs.Histories.{History, left}
use Rattle.tx_core.specs.Worlds.{IsWorldRun}
use Rattle.tx_core.proofs.Basics.{cond_same}
use Rattle.tx_core.proofs.unique.KeyLists.{contains_first}
use Rattle.tx_needed.specs.Needed.{IsNeeded}
use Rattle.tx_needed.specs.Forgets.{Forgets, IsPrewrite, on_locks, no_lock, on_writes, no_reads, no_rollback, no_mark, no_commit, no_put, no_safe}
use Rattle.tx_needed.proofs.Unexplained.{checks_no_insert, commits_under_read, commits_overlapping}
use Rattle.tx_needed.proofs.Words.{a, x, only, async, async_a, two_phase_a, begins, asks, took, says, prewrites, commits, checks_secondary, gets, raises, collects}
use Rattle.tx_needed.proofs.Cells.{by_key, by_time, IsOnly, only_there, unwritten, under_others}
use Rattle.tx_needed.proofs.Tables.{comes, locks_async, locks_two_phase, commits_lock, misses, misses_nothing, reads_nothing, raises_safe, collects_all, start_of}
use Rattle.tx_needed.proofs.Comes.{begins_run, on_one_key, nobody, as_declared, decides_a, of_its_keys}
use Rattle.tx_needed.proofs.Needs.{asked, one_more, within, answers_committed}
use Rattle.tx_needed.proofs.histories.OneKey.{declared_async, declared_async_run, committed_3_run, settled, settled_run, declared_two, declared_two_run}
use Rattle.tx_needed.proofs.histories.Marks.{second, then_settled, locked_late, record_3}

-- ---- a read at 3, above which an async lock commits

abbrev read_3 : History
read_3 = took (gets a 3 []) reply.Nothing (Drawn 2 3 ∷ declared_async)

pub minimum : IsNeeded (Forgets IsPrewrite no_reads)
minimum =
    asked read_3 (prewrites async_a a) (reply.Prewritten 3)
    ((declared_async_run, omega arith), comes (reads_nothing (nobody _) refl (λ c. refl) (omega arith) (omega arith)))
    (locks_async (tt, as_declared read_3 async_a a (Put x) refl refl) (unwritten refl (λ c. refl)) (omega arith)
    (omega arith) refl refl (omega arith) (omega arith))
    (commits_under_read read_3 (asks read_3 (prewrites async_a a) (reply.Prewritten 3)) 1 3 a (Put x) 3 None refl refl
    refl tt (omega arith) (inl (inl (contains_first (step.Read a 3 None) []))))

-- ---- its own rollback: missing, its transaction is aborted, and locked late it would be committed

abbrev missed_a : History
missed_a = took (checks_secondary a 1) reply.Missing declared_async

missed_a_run : IsWorldRun [] missed_a
missed_a_run = (
  declared_async_run,
  comes (misses_nothing (of_its_keys async_a refl refl (λ e. (cc (e)))) refl (λ c. refl) (omega arith)),
)

pub rollback : IsNeeded (Forgets IsPrewrite (on_writes no_rollback))
rollback =
    one_more missed_a (Took (asks missed_a (prewrites async_a a) (reply.Prewritten 3)))
    (Answered 1 (outcome.Committed 3)) missed_a_run
    (locks_async (tt, as_declared missed_a async_a a (Put x) refl refl) (unwritten refl forgotten) (omega arith)
    (omega arith) refl refl (omega arith) (omega arith)) (refl, refl, inr refl)
    (answers_committed (took (prewrites async_a a) (reply.Prewritten 3) missed_a) 1 3 refl)
  where
    forgotten : (q : ℕ) → no_rollback (((left missed_a 0).cells a).write q) ≡ None
    forgotten = by_time (λ q. no_rollback (((left missed_a 0).cells a).write q) ≡ None) 1 refl (λ q e. rw e refl)

-- the rollback was collected at 3
abbrev raised : History
raised = took (raises 3) reply.Raised (Drawn 1 3 ∷ missed_a)

abbrev collected : History
collected = took (collects 3) (reply.Collected 1 0) raised

pub safe : IsNeeded (Forgets IsPrewrite no_safe)
safe =
    one_more collected (Took (asks collected (prewrites async_a a) (reply.Prewritten 3)))
    (Answered 1 (outcome.Committed 3)) (
      ((missed_a_run, omega arith), comes (raises_safe tt (omega arith) (omega arith))),
      comes (collects_all tt refl (by_key (λ k. ((left raised 0).cells k).lock ≡ None) refl (λ k e. rw e refl))),
    )
    (locks_async (tt, as_declared collected async_a a (Put x) refl refl) (unwritten refl gone) (omega arith)
    (omega arith) refl refl (omega arith) (omega arith)) (refl, refl, inr refl)
    (answers_committed (took (prewrites async_a a) (reply.Prewritten 3) collected) 1 3 refl)
  where
    gone : (q : ℕ) → ((left collected 0).cells a).write q ≡ None
    gone = by_time (λ q. ((left collected 0).cells a).write q ≡ None) 1 refl (λ q e. rw e (cond_same _ None))

-- the mark on another's commit record, which stands in the place of the rollback
pub mark : IsNeeded (Forgets IsPrewrite (on_writes no_mark))
mark =
    one_more then_settled (Took (asks then_settled (prewrites second a) (reply.Prewritten 5)))
    (Answered 3 (outcome.Committed 5)) (
      (
        begins_run _ 2 second (on_one_key a (Put x) refl (omega arith) (omega arith) refl refl refl) [] committed_3_run,
        comes (misses (of_its_keys second refl refl (λ e. (cc (e))))
            (λ lock own. omega (arith, ap start_of own.stands, own.own)) (λ c own. (cc (own.stands))) (omega arith)),
      ),
      comes (commits_lock _ (inl refl) refl refl (omega arith) (omega arith) tt),
    )
    (locks_async (tt, as_declared then_settled second a (Put x) refl refl)
    (under_others 3 record_3 refl record { here = refl; elsewhere = λ q e. rw e refl } (omega arith)
    (λ same. omega (arith, same)) refl (λ bad. bad.0)) (omega arith) (omega arith) refl refl (omega arith)
    (omega arith)) (refl, refl, inr refl) (answers_committed (locked_late then_settled) 3 5 refl)

-- ---- another's commit above its start

abbrev declared_both : History
declared_both = begins 2 second declared_two

abbrev locked_second : History
locked_second = took (prewrites second a) (reply.Prewritten 5) declared_both

abbrev settled_second : History
settled_second = took (commits a 3 5) (reply.Committed 5) locked_second

abbrev drawn_6 : History
drawn_6 = Drawn 1 6 ∷ took (prewrites two_phase_a a) (reply.Prewritten 0) settled_second

pub conflict : IsNeeded (Forgets IsPrewrite (on_writes no_commit))
conflict =
    within (took (commits a 1 6) (reply.Committed 6) drawn_6)
    (inr (
      inr (
        inl (
          (
            (
              begins_run declared_two 2 second (on_one_key a (Put x) refl (omega arith) (omega arith) refl refl refl) []
                  declared_two_run,
              comes (locks_async (as_declared declared_both second a (Put x) refl refl) (unwritten refl (λ c. refl))
                  (omega arith) (omega arith) refl refl (omega arith) (omega arith)),
            ),
            comes (commits_lock _ (inl refl) refl refl (omega arith) (omega arith) tt),
          ),
          locks_two_phase (tt, as_declared settled_second two_phase_a a (Put x) refl refl) (unwritten refl forgotten)
              (omega arith) (omega arith) refl,
        ),
        omega arith,
      ),
      comes (commits_lock _ (inr (decides_a drawn_6 (Put x) refl 6 _ refl refl refl refl (omega arith))) refl refl
          (omega arith) (omega arith) tt),
    ))
    (commits_overlapping drawn_6 (asks drawn_6 (commits a 1 6) (reply.Committed 6)) 1 6 3 5 a (Put x) (Put x) refl refl
    refl refl refl (omega arith) (omega arith))
  where
    forgotten : (q : ℕ) → no_commit (((left settled_second 0).cells a).write q) ≡ None
    forgotten = by_time (λ q. no_commit (((left settled_second 0).cells a).write q) ≡ None) 5 refl (λ q e. rw e refl)

-- ---- another's lock, which commits its transaction at 5

abbrev declared_async_both : History
declared_async_both = begins 2 second declared_async

abbrev locked_first : History
locked_first = took (prewrites async_a a) (reply.Prewritten 5) declared_async_both

pub lock : IsNeeded (Forgets IsPrewrite (on_locks no_lock))
lock =
    asked locked_first (prewrites second a) (reply.Prewritten 5) (
      begins_run declared_async 2 second (on_one_key a (Put x) refl (omega arith) (omega arith) refl refl refl) []
          declared_async_run,
      comes (locks_async (as_declared declared_async_both async_a a (Put x) refl refl) (unwritten refl (λ c. refl))
          (omega arith) (omega arith) refl refl (omega arith) (omega arith)),
    )
    (locks_async (tt, as_declared locked_first second a (Put x) refl refl) (unwritten refl (λ c. refl)) (omega arith)
    (omega arith) refl refl (omega arith) (omega arith))
    (commits_overlapping locked_first (asks locked_first (prewrites second a) (reply.Prewritten 5)) 3 5 1 5 a (Put x)
    (Put x) refl refl refl refl refl (omega arith) (omega arith))

-- ---- a value where it inserts

abbrev inserts : Declaration
inserts = async 3 4 (only a (Insert x))

abbrev declared_insert : History
declared_insert = begins 2 inserts settled

abbrev does_in : Write → Mutation
does_in (CommitOf rec) = rec.mutation
does_in Rollback = Locks

abbrev asks_insert : Prewrite
asks_insert = says inserts a (Insert x)

pub value : IsNeeded (Forgets IsPrewrite (on_writes no_put))
value =
    asked declared_insert (body.Prewrite asks_insert) (reply.Prewritten 5)
    (begins_run settled 2 inserts (on_one_key a (Insert x) refl (omega arith) (omega arith) refl refl refl) []
    settled_run)
    (locks_async (tt, as_declared declared_insert inserts a (Insert x) refl refl)
    (under_others 3 _ refl only_3 (omega arith) (λ same. omega (arith, same)) refl
    (λ both. no_value both.1.1.at both.1.1.rec both.1.0 both.1.1.stands both.1.1.puts)) (omega arith) (omega arith) refl
    refl (omega arith) (omega arith))
    (checks_no_insert declared_insert (asks declared_insert (body.Prewrite asks_insert) (reply.Prewritten 5)) 1 3 a x
    record { value = x; inserts = refl; before = refl; now = λ e. (cc (e)) } refl refl)
  where
    only_3 : IsOnly (λ q. no_put (((left declared_insert 0).cells a).write q)) 3
        (CommitOf record record_3 { mutation = Locks })
    only_3 = record { here = refl; elsewhere = λ q e. rw e refl }

    no_value : (q : ℕ) (rec : CommitRecord) (v : Value)
        → no_put (((left declared_insert 0).cells a).write q) ≡ Some (CommitOf rec) → rec.mutation ≡ Put v → ⊥
    no_value q rec v stands puts =
        (let same = ap does_in (only_there only_3 q (CommitOf rec) stands).1 in cc (same, puts))
