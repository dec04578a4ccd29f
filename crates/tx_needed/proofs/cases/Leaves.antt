-- What answers must leave: marks both ways, the newest put, and that gets and inserts' checks read.
use Rattle.std.proofs.Common.{◌≡◌, ℕ, inl, inr, List, [], ◌∷◌, None, refl, ap, arith}
use Rattle.tx_types.specs.declared.mutation.Change.{Change}
use Rattle.tx_types.specs.declared.mutation.Mutation.TheVariants.{Put, Insert}
use Rattle.tx_plan.specs.declared.body.Body.TheVariants as body
use Rattle.tx_plan.specs.declared.answer.Answer.TheVariants as reply
use Rattle.tx_plan.specs.declared.body.Body.{Body}
use Rattle.tx_plan.specs.declared.answer.Answer.{Answer}
use Rattle.tx_plan.specs.Cells.{CommitOf, Region}
use Rattle.tx_machine.specs.declared.step.Step.{Step}
use Rattle.tx_machine.specs.declared.step.Step.TheVariants as step
use Rattle.tx_core.specs.declared.event.Declaration.{Declaration}
use Rattle.tx_core.specs.declared.event.Event.TheVariants.{Drawn, Took}
use Rattle.tx_core.specs.Histories.{History}
use Rattle.tx_core.proofs.Basics.{cond_same}
use Rattle.tx_core.proofs.unique.KeyLists.{contains_first}
use Rattle.tx_needed.specs.Needed.{left_by, IsRunBy, IsFalseBy}
use Rattle.tx_needed.specs.Leaves.{takes_no_mark, gives_no_mark, keeps_no_put, checks_unread, gets_unread}
use Rattle.tx_needed.proofs.Steps.{Stands}
use Rattle.tx_needed.proofs.Unexplained.{misses_newest, commits_under_read}
use Rattle.tx_needed.proofs.Words.{a, x, only, two_phase, async_a, begins, asks, took, says, prewrites, rolls_back, gets, raises, collects}
use Rattle.tx_needed.proofs.Cells.{by_key, by_time, IsOnly, only_there, start_in, unwritten, under_others, beside_rollback}
use Rattle.tx_needed.proofs.Tables.{locks_async, locks_two_phase, commits_lock, rolls_lock, misses, reads_nothing, raises_safe, collects_all, start_of}
use Rattle.tx_needed.proofs.Comes.{begins_by, on_one_key, nobody, as_declared, of_primary, of_its_keys}
use Rattle.tx_needed.proofs.Needs.{answers_committed}
use Rattle.tx_needed.proofs.histories.OneKey.{begins_async, declared_async, committed_3, settled}
use Rattle.tx_needed.proofs.histories.Marks.{second, then_settled, begun_after, then_missed, locked_late, answered_late, record_3}

-- ---- a commit record takes the mark of the rollback in its place: else the late prewrite, whose
-- ---- transaction is aborted, is accepted

-- whatever answers leave
committed_by : (leaves : Region → Body → Answer → Region) → IsRunBy leaves [] committed_3
committed_by leaves = (
  begins_by [] 1 async_a begins_async leaves tt,
  locks_async (as_declared declared_async async_a a (Put x) refl refl) (unwritten refl (λ c. refl)) (omega arith)
      (omega arith) refl refl (omega arith) (omega arith),
)

pub takes_mark : IsFalseBy takes_no_mark
takes_mark = record {
  bounds = [];
  events = answered_late then_settled;
  run = (
    (
      (
        (
          begins_by committed_3 2 second (on_one_key a (Put x) refl (omega arith) (omega arith) refl refl refl)
              takes_no_mark (committed_by takes_no_mark),
          misses (of_its_keys second refl refl (λ e. (cc (e))))
              (λ lock own. omega (arith, ap start_of own.stands, own.own)) (λ c own. (cc (own.stands))) (omega arith),
        ),
        commits_lock _ (inl refl) refl refl (omega arith) (omega arith) tt,
      ),
      locks_async (as_declared then_settled second a (Put x) refl refl)
          (under_others 3 record_3 refl record { here = refl; elsewhere = λ q e. rw e refl } (omega arith)
          (λ same. omega (arith, same)) refl (λ bad. bad.0)) (omega arith) (omega arith) refl refl (omega arith)
          (omega arith),
    ),
    (refl, refl, inr refl),
  );
  unexplained = answers_committed (locked_late then_settled) 3 5 refl;
}

-- ---- a rollback marks the commit record in its place

settled_giving : IsRunBy gives_no_mark [] settled
settled_giving = (
  committed_by gives_no_mark,
  commits_lock _ (inl refl) refl refl (omega arith) (omega arith) tt,
)

others_record : IsOnly ((left_by gives_no_mark begun_after 0).cells a).write 3 (CommitOf record_3)
others_record = record { here = refl; elsewhere = λ q e. rw e refl }

pub gives_mark : IsFalseBy gives_no_mark
gives_mark = record {
  bounds = [];
  events = answered_late then_missed;
  run = (
    (
      (
        begins_by settled 2 second (on_one_key a (Put x) refl (omega arith) (omega arith) refl refl refl) gives_no_mark
            settled_giving,
        misses (of_its_keys second refl refl (λ e. (cc (e)))) (λ lock own. (cc (own.stands)))
            (λ c own. omega (arith, ap start_in (only_there others_record c (CommitOf own.rec) own.stands).1, own.own))
            (omega arith),
      ),
      locks_async (as_declared then_missed second a (Put x) refl refl)
          (under_others 3 record_3 refl record { here = refl; elsewhere = λ q e. rw e refl } (omega arith)
          (λ same. omega (arith, same)) refl (λ bad. bad.0)) (omega arith) (omega arith) refl refl (omega arith)
          (omega arith),
    ),
    (refl, refl, inr refl),
  );
  unexplained = answers_committed (locked_late then_missed) 3 5 refl;
}

-- ---- a collection at 4 keeps the newest put, which a read at 4 sees

abbrev declarer : Step → ℕ
declarer (step.Declare u set) = u
declarer s = 0

abbrev raised : History
raised = took (raises 4) reply.Raised (Drawn 2 4 ∷ settled)

abbrev collected : History
collected = took (collects 4) (reply.Collected 1 0) raised

pub keeps_put : IsFalseBy keeps_no_put
keeps_put = record {
  bounds = [];
  events = took (gets a 4 []) reply.Nothing collected;
  run = (
    (
      (
        (
          (
            committed_by keeps_no_put,
            commits_lock _ (inl refl) refl refl (omega arith) (omega arith) tt,
          ),
          omega arith,
        ),
        raises_safe tt (omega arith) (omega arith),
      ),
      collects_all tt refl
          (by_key (λ k. ((left_by keeps_no_put raised 0).cells k).lock ≡ None) refl (λ k e. rw e refl)),
    ),
    reads_nothing (nobody _) refl gone (omega arith) (omega arith),
  );
  unexplained = misses_newest collected (Took (asks collected (gets a 4 []) reply.Nothing)) 1 3 4 a x refl refl
      (omega arith) alone (λ table true. true.0);
}
  where
    gone : (q : ℕ) → ((left_by keeps_no_put collected 0).cells a).write q ≡ None
    gone = by_time (λ q. ((left_by keeps_no_put collected 0).cells a).write q ≡ None) 3 refl
        (λ q e. rw e (cond_same _ None))

    alone : (u : ℕ) (set : List Change) → Stands (took (gets a 4 []) reply.Nothing collected) (step.Declare u set)
        → u ≡ 1
    alone u set (inl never) = absurd never
    alone u set (inr (inl never)) = absurd never
    alone u set (inr (inr (inl never))) = absurd never
    alone u set (inr (inr (inr (inl e)))) = absurd (cc (e))
    alone u set (inr (inr (inr (inr (inl never))))) = absurd never
    alone u set (inr (inr (inr (inr (inr (inl never)))))) = absurd never
    alone u set (inr (inr (inr (inr (inr (inr (inl e))))))) = ap declarer e
    alone u set (inr (inr (inr (inr (inr (inr (inr (inl e)))))))) = absurd (cc (e))
    alone u set (inr (inr (inr (inr (inr (inr (inr (inr (inl e))))))))) = absurd (cc (e))
    alone u set (inr (inr (inr (inr (inr (inr (inr (inr (inr (inl e)))))))))) = absurd (cc (e))
    alone u set (inr (inr (inr (inr (inr (inr (inr (inr (inr (inr never)))))))))) = absurd never

-- ---- a get counts as a read, at or below which no one commits

abbrev read_3 : History
read_3 = took (gets a 3 []) reply.Nothing (Drawn 2 3 ∷ declared_async)

pub gets_count : IsFalseBy gets_unread
gets_count = record {
  bounds = [];
  events = took (prewrites async_a a) (reply.Prewritten 3) read_3;
  run = (
    (
      (
        begins_by [] 1 async_a begins_async gets_unread tt,
        omega arith,
      ),
      reads_nothing (nobody _) refl (λ c. refl) (omega arith) (omega arith),
    ),
    locks_async (as_declared read_3 async_a a (Put x) refl refl) (unwritten refl (λ c. refl)) (omega arith)
        (omega arith) refl refl (omega arith) (omega arith),
  );
  unexplained = commits_under_read read_3 (asks read_3 (prewrites async_a a) (reply.Prewritten 3)) 1 3 a (Put x) 3 None
      refl refl refl tt (omega arith) (inl (inl (contains_first (step.Read a 3 None) [])));
}

-- ---- so does the check of an insert, though its transaction is rolled back

abbrev inserts : Declaration
inserts = two_phase 3 4 (only a (Insert x))

abbrev declared_both : History
declared_both = begins 2 inserts declared_async

abbrev inserted : History
inserted = took (body.Prewrite (says inserts a (Insert x))) (reply.Prewritten 0) declared_both

abbrev rolled : History
rolled = took (rolls_back a 3) reply.RolledBack inserted

pub checks_count : IsFalseBy checks_unread
checks_count = record {
  bounds = [];
  events = took (prewrites async_a a) (reply.Prewritten 3) rolled;
  run = (
    (
      (
        begins_by declared_async 2 inserts
            (on_one_key a (Insert x) refl (omega arith) (omega arith) refl refl refl) checks_unread
            (begins_by [] 1 async_a begins_async checks_unread tt),
        locks_two_phase (as_declared declared_both inserts a (Insert x) refl refl) (unwritten refl (λ c. refl))
            (omega arith) (omega arith) refl,
      ),
      rolls_lock _ (of_primary inserts refl refl refl) refl refl (omega arith),
    ),
    locks_async (as_declared rolled async_a a (Put x) refl refl)
        (beside_rollback 3 refl record { here = refl; elsewhere = λ q e. rw e refl } (λ same. omega (arith, same)))
        (omega arith) (omega arith) refl refl (omega arith) (omega arith),
  );
  unexplained = commits_under_read rolled (asks rolled (prewrites async_a a) (reply.Prewritten 3)) 1 3 a (Put x) 3 None
      refl refl refl tt (omega arith)
      (inr (inl (inr (record { value = x; inserts = refl; before = refl; now = λ e. (cc (e)) }, refl))));
}
