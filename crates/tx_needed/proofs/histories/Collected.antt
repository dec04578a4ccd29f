-- Histories in which a region collects. A commit record that puts nothing is dropped with its
-- timestamp below the safe point; so is a put below a delete.
use Rattle.std.proofs.Common.{◌≡◌, ℕ, ◌≤◌, ◌==◌, inl, inr, false, [], ◌∷◌, None, bytes_eq, refl, arith}
use Rattle.tx_types.specs.declared.key.Key.{Key}
use Rattle.tx_types.specs.declared.value.Value.{Value}
use Rattle.tx_types.specs.declared.mutation.Mutation.TheVariants.{Delete, Lock as Locks}
use Rattle.tx_plan.specs.declared.body.Body.TheVariants as body
use Rattle.tx_plan.specs.declared.answer.Answer.TheVariants as reply
use Rattle.tx_plan.specs.Reads.{Finds}
use Rattle.tx_core.specs.declared.event.Declaration.{Declaration}
use Rattle.tx_core.specs.declared.event.Event.TheVariants.{Drawn}
use Rattle.tx_core.specs.Histories.{History, left}
use Rattle.tx_core.specs.Worlds.{IsWorldRun}
use Rattle.tx_core.proofs.Basics.{cond_same}
use Rattle.tx_needed.proofs.Words.{a, only, async, two_phase, begins, took, says, commits, raises, collects}
use Rattle.tx_needed.proofs.Cells.{by_key, by_time, unwritten, under_others}
use Rattle.tx_needed.proofs.Tables.{comes, locks_async, locks_two_phase, commits_lock, raises_safe, collects_all}
use Rattle.tx_needed.proofs.Comes.{begins_run, on_one_key, as_declared, decides_a}
use Rattle.tx_needed.proofs.histories.OneKey.{settled, settled_run}

-- ---- the commit record of a lock, at 3, is dropped, where the transaction is two-phase

abbrev pub locks_two : Declaration
locks_two = two_phase 1 2 (only a Locks)

abbrev declared_two : History
declared_two = begins 1 locks_two []

abbrev drawn_3 : History
drawn_3 = Drawn 1 3 ∷ took (body.Prewrite (says locks_two a Locks)) (reply.Prewritten 0) declared_two

abbrev raised_two : History
raised_two = took (raises 4) reply.Raised (Drawn 1 4 ∷ took (commits a 1 3) (reply.Committed 3) drawn_3)

abbrev pub dropped_two : History
dropped_two = took (collects 4) (reply.Collected 1 0) raised_two

pub dropped_two_run : IsWorldRun [] dropped_two
dropped_two_run = (
  (
    (
      (
        (
          (
            begins_run [] 1 locks_two (on_one_key a Locks refl (omega arith) (omega arith) refl refl refl) [] tt,
            comes (locks_two_phase (as_declared declared_two locks_two a Locks refl refl)
                (unwritten refl (λ c. refl)) (omega arith) (omega arith) refl),
          ),
          omega arith,
        ),
        comes (commits_lock _ (inr (decides_a drawn_3 Locks refl 3 _ refl refl refl refl (omega arith))) refl refl
            (omega arith) (omega arith) tt),
      ),
      omega arith,
    ),
    comes (raises_safe tt (omega arith) (omega arith)),
  ),
  comes (collects_all tt refl (by_key (λ k. ((left raised_two 0).cells k).lock ≡ None) refl (λ k e. rw e refl))),
)

pub none_of_two : (q : ℕ) → ((left dropped_two 0).cells a).write q ≡ None
none_of_two = by_time (λ q. ((left dropped_two 0).cells a).write q ≡ None) 3 refl (λ q e. rw e (cond_same _ None))

-- ---- and where it is async

abbrev pub locks_alone : Declaration
locks_alone = async 1 2 (only a Locks)

abbrev declared_alone : History
declared_alone = begins 1 locks_alone []

abbrev locked_alone : History
locked_alone = took (body.Prewrite (says locks_alone a Locks)) (reply.Prewritten 3) declared_alone

abbrev raised_alone : History
raised_alone = took (raises 4) reply.Raised (Drawn 1 4 ∷ took (commits a 1 3) (reply.Committed 3) locked_alone)

abbrev pub dropped_alone : History
dropped_alone = took (collects 4) (reply.Collected 1 0) raised_alone

pub dropped_alone_run : IsWorldRun [] dropped_alone
dropped_alone_run = (
  (
    (
      (
        (
          begins_run [] 1 locks_alone (on_one_key a Locks refl (omega arith) (omega arith) refl refl refl) [] tt,
          comes (locks_async (as_declared declared_alone locks_alone a Locks refl refl) (unwritten refl (λ c. refl))
              (omega arith) (omega arith) refl refl (omega arith) (omega arith)),
        ),
        comes (commits_lock _ (inl refl) refl refl (omega arith) (omega arith) tt),
      ),
      omega arith,
    ),
    comes (raises_safe tt (omega arith) (omega arith)),
  ),
  comes (collects_all tt refl (by_key (λ k. ((left raised_alone 0).cells k).lock ≡ None) refl (λ k e. rw e refl))),
)

pub none_of_alone : (q : ℕ) → ((left dropped_alone 0).cells a).write q ≡ None
none_of_alone = by_time (λ q. ((left dropped_alone 0).cells a).write q ≡ None) 3 refl (λ q e. rw e (cond_same _ None))

-- ---- a put at 3, below a delete at 6, is dropped

abbrev deletes_a : Declaration
deletes_a = async 4 5 (only a Delete)

abbrev second : History
second = begins 2 deletes_a settled

abbrev locked_delete : History
locked_delete = took (body.Prewrite (says deletes_a a Delete)) (reply.Prewritten 6) second

abbrev pub deleted : History
deleted = Drawn 1 6 ∷ took (commits a 4 6) (reply.Committed 6) locked_delete

pub deleted_run : IsWorldRun [] deleted
deleted_run = (
  (
    (
      begins_run settled 2 deletes_a (on_one_key a Delete refl (omega arith) (omega arith) refl refl refl) []
          settled_run,
      comes (locks_async (as_declared second deletes_a a Delete refl refl)
          (under_others 3 _ refl record { here = refl; elsewhere = λ q e. rw e refl } (omega arith)
          (λ same. omega (arith, same)) refl (λ bad. bad.0)) (omega arith) (omega arith) refl refl (omega arith)
          (omega arith)),
    ),
    comes (commits_lock _ (inl refl) refl refl (omega arith) (omega arith) tt),
  ),
  omega arith,
)

abbrev raised_6 : History
raised_6 = took (raises 6) reply.Raised deleted

abbrev pub collected : History
collected = took (collects 6) (reply.Collected 2 0) raised_6

pub collected_run : IsWorldRun [] collected
collected_run = (
  (deleted_run, comes (raises_safe tt (omega arith) (omega arith))),
  comes (collects_all tt refl (by_key (λ k. ((left raised_6 0).cells k).lock ≡ None) refl (λ k e. rw e refl))),
)

-- nothing is left on the key up to 3, and on other keys nothing was written
pub none_low : (q : ℕ) → q ≤ 3 → ((left collected 0).cells a).write q ≡ None
none_low q low = by_time (λ p. p ≤ 3 → ((left collected 0).cells a).write p ≡ None) 3 (λ upto. refl)
    (λ p e. by_time (λ o. (3 == o) ≡ false → o ≤ 3 → ((left collected 0).cells a).write o ≡ None) 6
    (λ f upto. absurd (omega (arith, upto))) (λ o g f upto. rw (g, f) (cond_same _ None)) p e) q low

pub finds_none : (v : Value) → Finds ((left collected 0).cells a).write 3 v → ⊥
finds_none v finds = (let none = none_low finds.at finds.upto in let some = finds.stands in cc (none, some))

pub none_elsewhere : (k : Key) → bytes_eq a k ≡ false → (q : ℕ) → ((left collected 0).cells k).write q ≡ None
none_elsewhere k e q = rw e (cond_same _ None)
