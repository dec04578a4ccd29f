-- Which commit decides: of which key, when, of what mode, at which timestamp; which one follows;
-- and what it may do to a lock that was pushed.
use Rattle.std.proofs.Common.{ℕ, ◌<◌, ◌≤◌, ◌⊎◌, inl, inr, false, [], ◌∷◌, Option, Some, None, refl, ap, arith}
use Rattle.tx_types.specs.declared.mutation.Mutation.TheVariants.{Put}
use Rattle.tx_types.specs.declared.mutation.Fate.TheVariants.{Committed, Aborted}
use Rattle.tx_plan.specs.declared.answer.Answer.TheVariants as reply
use Rattle.tx_plan.specs.Cells.{Lock, info_of}
use Rattle.tx_plan.specs.cases.Prewrite.{lock_of}
use Rattle.tx_machine.specs.declared.step.Step.{Step}
use Rattle.tx_machine.specs.declared.step.Step.TheVariants as step
use Rattle.tx_core.specs.declared.event.Declaration.{Declaration}
use Rattle.tx_core.specs.declared.event.Event.TheVariants.{Drawn, Took}
use Rattle.tx_core.specs.Histories.{History}
use Rattle.tx_core.specs.Decisions.{accepted}
use Rattle.tx_core.specs.EventSteps.{IsStepOf}
use Rattle.tx_core.proofs.unique.KeyLists.{contains_first}
use Rattle.tx_needed.specs.Needed.{IsNeeded, Requests}
use Rattle.tx_needed.specs.Rules.{CommitsAnyKey, CommitsEarly, CommitsAsync, CommitsBefore, CommitsUndrawn, SettlesAnywhere}
use Rattle.tx_needed.specs.Forgets.{Forgets, IsCommit, on_locks, no_minimum}
use Rattle.tx_needed.proofs.Machine.{last_upto}
use Rattle.tx_needed.proofs.Steps.{Stands}
use Rattle.tx_needed.proofs.Unexplained.{tells_other, refuses, commits_under_read}
use Rattle.tx_needed.proofs.Words.{a, b, x, both, async, two_phase_a, begins, asks, took, says, prewrites, commits, rolls_back, checks, checks_secondary, gets}
use Rattle.tx_needed.proofs.Cells.{unwritten}
use Rattle.tx_needed.proofs.Tables.{comes, takes, locks_two_phase, falls_back, commits_lock, rolls_lock, misses_nothing, reads_none, reads_nothing}
use Rattle.tx_needed.proofs.Comes.{begins_run, on_both_keys, nobody, as_declared, accepted_a, at_of, key_of_one, drew_after_a, drew_after_both, decides_a, decides_both, legal_decision, of_primary, of_its_keys, unforced}
use Rattle.tx_needed.proofs.Needs.{asked}
use Rattle.tx_needed.proofs.histories.OneKey.{committed_3, committed_3_run, declared_two, declared_two_run, locked_two, locked_two_run}
use Rattle.tx_needed.proofs.histories.BothKeys.{two_phase_both, locked_both, locked_both_run, primary_3, primary_3_run}

-- ---- of another key than the primary, which is rolled back

abbrev rolled_a : History
rolled_a = Drawn 1 3 ∷ took (rolls_back a 1) reply.RolledBack locked_both

pub other_key : IsNeeded (Requests CommitsAnyKey)
other_key =
    asked rolled_a (commits b 1 3) (reply.Committed 3) (
      (locked_both_run, comes (rolls_lock _ (of_primary two_phase_both refl refl refl) refl refl (omega arith))),
      omega arith,
    )
    (commits_lock _ (
      a,
      legal_decision (decides_both rolled_a refl 3 _ refl refl (λ e. (cc (e))) refl refl (omega arith) (omega arith)),
    ) refl refl (omega arith) (omega arith) tt)
    (tells_other rolled_a (Took (asks rolled_a (commits b 1 3) (reply.Committed 3))) 1 Aborted (Committed 3) refl
    (λ table true. true.0) (λ e. (cc (e))))

-- ---- before every key is accepted: the primary has fallen back, and the other key was missing

abbrev bounded : Declaration
bounded = record (async 1 2 both) { max_commit = Some 1 }

abbrev fell_back : History
fell_back = took (prewrites bounded a) (reply.Prewritten 0) (begins 1 bounded [])

abbrev missed_b : History
missed_b = Drawn 1 3 ∷ took (checks_secondary b 1) reply.Missing fell_back

pub early : IsNeeded (Requests CommitsEarly)
early =
    asked missed_b (commits a 1 3) (reply.Committed 3) (
      (
        (
          begins_run [] 1 bounded (on_both_keys refl (omega arith) (omega arith)) [] tt,
          comes (falls_back {m = 3} (as_declared (begins 1 bounded []) bounded a (Put x) refl refl)
              (unwritten refl (λ c. refl)) (omega arith) (omega arith) refl refl (omega arith) (omega arith)
              (omega arith)),
        ),
        comes (misses_nothing (of_its_keys bounded refl refl (λ e. (cc (e)))) refl (λ c. refl) (omega arith)),
      ),
      omega arith,
    )
    (commits_lock _ (
      refl,
      record { key = a; by = _; stands = refl; two_phase = refl },
      λ e. (cc (e)),
      (drew_after_both missed_b refl 3 refl refl (omega arith) (omega arith)).after,
    ) refl refl (omega arith) (omega arith) tt)
    (tells_other missed_b (Took (asks missed_b (commits a 1 3) (reply.Committed 3))) 1 Aborted (Committed 3) refl
    (λ table true. true.0) (λ e. (cc (e))))

-- ---- of an async transaction, which is committed at 3 already

abbrev drawn_4 : History
drawn_4 = Drawn 1 4 ∷ committed_3

pub no_two_phase : IsNeeded (Requests CommitsAsync)
no_two_phase =
    asked drawn_4 (commits a 1 4) (reply.Committed 4) (committed_3_run, omega arith)
    (commits_lock _ (
      refl,
      accepted_a drawn_4 (Put x) refl (λ e. (cc (e))),
      λ e. (cc (e)),
      (drew_after_a drawn_4 (Put x) refl 4 refl refl (omega arith)).after,
    ) refl refl (omega arith) (omega arith) tt)
    (tells_other drawn_4 (Took (asks drawn_4 (commits a 1 4) (reply.Committed 4))) 1 (Committed 3) (Committed 4) refl
    (λ table true. true.0) (λ e. (let same = e in cc (same))))

-- ---- at a number that was drawn before the key was accepted, and read at since

abbrev read_3 : History
read_3 = took (gets a 3 []) reply.Nothing (Drawn 1 3 ∷ declared_two)

abbrev accepted_late : History
accepted_late = took (prewrites two_phase_a a) (reply.Prewritten 0) read_3

pub drawn_before : IsNeeded (Requests CommitsBefore)
drawn_before =
    asked accepted_late (commits a 1 3) (reply.Committed 3) (
      (
        (declared_two_run, omega arith),
        comes (reads_nothing (nobody _) refl (λ c. refl) (omega arith) (omega arith)),
      ),
      comes (locks_two_phase (as_declared read_3 two_phase_a a (Put x) refl refl) (unwritten refl (λ c. refl))
          (omega arith) (omega arith) refl),
    )
    (commits_lock _ (
      refl,
      accepted_a accepted_late (Put x) refl (λ e. (cc (e))),
      record { key = a; by = _; stands = refl; two_phase = refl },
      λ e. (cc (e)),
    ) refl refl
    (omega arith) (omega arith) tt)
    (commits_under_read accepted_late (asks accepted_late (commits a 1 3) (reply.Committed 3)) 1 3 a (Put x) 3 None refl
    refl refl tt (omega arith) (inr (inl (inl (contains_first (step.Read a 3 None) [])))))

-- ---- at a number that nobody drew

abbrev number : Step → ℕ
number (step.Draw m) = m
number s = 0

pub undrawn : IsNeeded (Requests CommitsUndrawn)
undrawn =
    asked locked_two (commits a 1 9) (reply.Committed 9) locked_two_run
    (commits_lock _ (
      refl,
      accepted_a locked_two (Put x) refl (λ e. (cc (e))),
      record { key = a; by = _; stands = refl; two_phase = refl },
      λ k by within here. (let low = key_of_one (λ j. at_of (accepted locked_two 1 j) < 9) (Put x) k within
          (omega arith) in omega (arith, ap at_of here, low)),
    ) refl refl (omega arith) (omega arith) tt)
    (refuses locked_two (Took (asks locked_two (commits a 1 9) (reply.Committed 9))) (step.Commit 1 9)
    record { before = refl; now = refl } (λ steps has within run may.
    omega (arith, may.upto, last_upto steps 2 (λ m drew. low m (within (step.Draw m) drew)))))
  where
    low : (m : ℕ) → IsStepOf locked_two (Took (asks locked_two (commits a 1 9) (reply.Committed 9))) (step.Draw m)
        ⊎ Stands locked_two (step.Draw m) → m ≤ 2
    low m (inl never) = absurd never
    low m (inr (inl never)) = absurd never
    low m (inr (inr (inl e))) = absurd (cc (e))
    low m (inr (inr (inr (inl e)))) = omega (arith, ap number e)
    low m (inr (inr (inr (inr (inl e))))) = absurd (cc (e))
    low m (inr (inr (inr (inr (inr (inl e)))))) = omega (arith, ap number e)
    low m (inr (inr (inr (inr (inr (inr never)))))) = absurd never

-- ---- of a committed transaction at another timestamp

abbrev drawn_more : History
drawn_more = Drawn 1 4 ∷ primary_3

pub other_timestamp : IsNeeded (Requests SettlesAnywhere)
other_timestamp =
    asked drawn_more (commits b 1 4) (reply.Committed 4) (primary_3_run, omega arith)
    (commits_lock _ (3, refl) refl refl (omega arith) (omega arith) tt)
    (tells_other drawn_more (Took (asks drawn_more (commits b 1 4) (reply.Committed 4))) 1 (Committed 3) (Committed 4)
    refl (λ table true. true.0) (λ e. (let same = e in cc (same))))

-- ---- below the minimum of a lock that a reader pushed, and passed

abbrev pushes : Lock
pushes = record (lock_of (says two_phase_a a (Put x)) 0) { min = 4 }

abbrev pushed : History
pushed = took (checks a 1 3 0 false) (reply.Locked (info_of a pushes)) (Drawn 1 3 ∷ locked_two)

abbrev read_pushed : History
read_pushed = took (gets a 3 []) reply.Nothing pushed

abbrev min_of : Option Lock → ℕ
min_of None = 0
min_of (Some lock) = lock.min

pub below_minimum : IsNeeded (Forgets IsCommit (on_locks no_minimum))
below_minimum =
    asked read_pushed (commits a 1 3) (reply.Committed 3) (
      (
        (locked_two_run, omega arith),
        comes (takes (unforced refl refl) refl (inr (
          λ low. omega (arith, low),
          inr (
            λ high. omega (arith, high),
            inl (
              _,
              record { stands = refl; own = refl },
              inr (λ both. (cc (both.0)), inr (λ over. omega (arith, over), inl (omega arith, refl))),
            ),
          ),
        ))),
      ),
      comes (reads_none (nobody _) (λ lock blocks. omega (arith, ap min_of blocks.stands, blocks.below))
          (λ v finds. (cc (finds.stands))) (omega arith) (omega arith)),
    )
    (commits_lock _ (tt, inr (decides_a read_pushed (Put x) refl 3 _ refl refl refl refl (omega arith))) refl refl
    (omega arith) (omega arith) tt)
    (commits_under_read read_pushed (asks read_pushed (commits a 1 3) (reply.Committed 3)) 1 3 a (Put x) 3 None refl
    refl refl tt (omega arith) (inl (inl (contains_first (step.Read a 3 None) []))))
