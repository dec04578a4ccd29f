-- What a prewrite says: of which transaction, of which key, what it does there, and its mode.
use Rattle.std.proofs.Common.{◌≡◌, ◌++◌, inl, inr, [], ◌∷◌, Option, Some, None, refl, sym, ap, subst, ◌∙◌, arith}
use Rattle.tx_types.specs.declared.mutation.Mode.TheVariants as mode
use Rattle.tx_types.specs.declared.mutation.Mutation.TheVariants.{Put, Lock as Locks}
use Rattle.tx_types.specs.Keys.{IsVisible}
use Rattle.tx_plan.specs.declared.body.Body.TheVariants as body
use Rattle.tx_plan.specs.declared.body.Prewrite.{Prewrite}
use Rattle.tx_plan.specs.declared.answer.Answer.TheVariants as reply
use Rattle.tx_plan.specs.Cells.{Lock, info_of}
use Rattle.tx_plan.specs.cases.Prewrite.{lock_of}
use Rattle.tx_machine.specs.Keys.{mutation_at}
use Rattle.tx_machine.specs.Machine.{Open, Table, changes_in, table_of}
use Rattle.tx_core.specs.declared.event.Event.TheVariants.{Drawn, Answered, Took}
use Rattle.tx_core.specs.declared.event.Outcome.TheVariants as outcome
use Rattle.tx_core.specs.Histories.{History}
use Rattle.tx_core.specs.Truth.{IsToldLock}
use Rattle.tx_core.proofs.unique.KeyLists.{contains_first}
use Rattle.tx_core.proofs.Basics.{some_same}
use Rattle.tx_needed.specs.Needed.{IsNeeded, IsExplained, Requests}
use Rattle.tx_needed.specs.Rules.{PrewritesUndeclared, PrewritesOutside, PrewritesOther, PrewritesOtherwise}
use Rattle.tx_needed.proofs.Machine.{HasSet}
use Rattle.tx_needed.proofs.Steps.{no_steps}
use Rattle.tx_needed.proofs.Unexplained.{has_set}
use Rattle.tx_needed.proofs.Words.{a, b, x, only, async_a, two_phase_a, starts, asks, took, says, prewrites, rolls_back, gets}
use Rattle.tx_needed.proofs.Cells.{unwritten}
use Rattle.tx_needed.proofs.Tables.{comes, locks_async, locks_two_phase, rolls_lock, reads_none, meets}
use Rattle.tx_needed.proofs.Comes.{nobody, as_declared, legally, of_primary}
use Rattle.tx_needed.proofs.Needs.{within, one_more, aborted, gets_none}
use Rattle.tx_needed.proofs.histories.OneKey.{declared_async, declared_async_run, declared_two, declared_two_run}

-- ---- a key that was declared two-phase is locked async, which commits it; then it is rolled back

abbrev asks_async : Prewrite
asks_async = record (says two_phase_a a (Put x)) { mode = mode.Async }

abbrev locked_async : History
locked_async = took (body.Prewrite asks_async) (reply.Prewritten 2) declared_two

pub other_mode : IsNeeded (Requests PrewritesOtherwise)
other_mode =
    one_more declared_two (Took (asks declared_two (body.Prewrite asks_async) (reply.Prewritten 2)))
    (Took (asks locked_async (rolls_back a 1) reply.RolledBack)) declared_two_run
    (locks_async (mode.TwoPhase, legally (as_declared declared_two two_phase_a a (Put x) refl refl))
    (unwritten refl (λ c. refl)) (omega arith) (omega arith) refl refl (omega arith) (omega arith))
    (comes (rolls_lock _ (of_primary two_phase_a refl refl refl) refl refl (omega arith)))
    (aborted locked_async (rolls_back a 1) reply.RolledBack 1 2 refl (λ table true. true.0))

-- ---- a put was declared, and the key is only locked

abbrev asks_lock : Prewrite
asks_lock = record (says async_a a (Put x)) { mutation = Locks }

abbrev only_locked : History
only_locked = Drawn 2 3 ∷ took (body.Prewrite asks_lock) (reply.Prewritten 3) declared_async

abbrev VisibleIn : Option Lock → Type 0
VisibleIn None = ⊥
VisibleIn (Some lock) = IsVisible lock.mutation

pub other_mutation : IsNeeded (Requests PrewritesOther)
other_mutation =
    within (took (gets a 3 []) reply.Nothing only_locked)
    (inr (
      inr (
        inl (
          declared_async_run,
          locks_async (Put x, legally (as_declared declared_async async_a a (Put x) refl refl))
              (unwritten refl (λ c. refl)) (omega arith) (omega arith) refl refl (omega arith) (omega arith),
        ),
        omega arith,
      ),
      comes (reads_none (nobody _) (λ lock blocks. subst VisibleIn (sym blocks.stands) blocks.visible)
          (λ v finds. (cc (finds.stands))) (omega arith) (omega arith)),
    )) (gets_none only_locked a 3 [] 1 x refl refl)

-- ---- a lock of a transaction that declared nothing is shown, and its session answers read-only

abbrev begun : History
begun = starts 1 1 []

abbrev undeclared_lock : Lock
undeclared_lock = lock_of (says two_phase_a a (Put x)) 0

abbrev shown : History
shown = took (gets a 2 []) (reply.KeyIsLocked (info_of a undeclared_lock))
    (Drawn 2 2 ∷ took (prewrites two_phase_a a) (reply.Prewritten 0) begun)

pub undeclared : IsNeeded (Requests PrewritesUndeclared)
undeclared =
    within (Answered 1 outcome.ReadOnly ∷ shown)
    (inr (
      inr (
        inr (
          inl (
            ((tt, omega arith), (λ e. (cc (e)), refl)),
            locks_two_phase refl (unwritten refl (λ c. refl)) (omega arith) (omega arith) refl,
          ),
          omega arith,
        ),
        comes (meets _ (nobody _) refl tt (omega arith) (omega arith) (omega arith)),
      ),
      (refl, refl, refl),
    )) not_both
  where
    differ : (table : Table) → IsToldLock table (info_of a undeclared_lock)
        → table.row 1 ≡ Some record { changes = None; state = Open } → ⊥
    differ table told undeclared = (let some = ap changes_in told.row_is in cc (some, undeclared))

    not_both : IsExplained (Answered 1 outcome.ReadOnly ∷ shown) → ⊥
    not_both (steps, (own, earlier, is, before, each, truth), run, ends) =
        let none = no_steps own (λ s has. (each s).0 has) in
        let same = is ∙ ap (λ ys. ys ++ earlier) none in
        differ (table_of earlier)
        (before.5.1 (info_of a undeclared_lock) (contains_first (info_of a undeclared_lock) []))
        (ap (λ ys. (table_of ys).row 1) (sym same) ∙ truth)

-- ---- a lock on a key that was not declared is shown

abbrev asks_b : Prewrite
asks_b = says two_phase_a b (Put x)

abbrev locked_b : History
locked_b = took (body.Prewrite asks_b) (reply.Prewritten 0) declared_two

pub other_key : IsNeeded (Requests PrewritesOutside)
other_key =
    one_more declared_two (Took (asks declared_two (body.Prewrite asks_b) (reply.Prewritten 0)))
    (Took (asks locked_b (gets b 2 []) (reply.KeyIsLocked (info_of b (lock_of asks_b 0))))) declared_two_run
    (locks_two_phase (a, legally (as_declared declared_two two_phase_a a (Put x) refl refl))
    (unwritten refl (λ c. refl)) (omega arith) (omega arith) refl)
    (comes (meets _ (nobody _) refl tt (omega arith) (omega arith) (omega arith))) unexplained
  where
    outside : (table : Table) → IsToldLock table (info_of b (lock_of asks_b 0)) → HasSet table 1 (only a (Put x)) → ⊥
    outside table told has =
        let same = some_same told.set (only a (Put x)) (sym (ap changes_in told.row_is) ∙ has) in
        told.within (ap (λ set. mutation_at set b) same)

    unexplained : IsExplained (took (gets b 2 []) (reply.KeyIsLocked (info_of b (lock_of asks_b 0))) locked_b) → ⊥
    unexplained (steps, explains, run, ends) =
        outside (table_of steps)
        (explains.5.1 (info_of b (lock_of asks_b 0)) (contains_first (info_of b (lock_of asks_b 0)) []))
        (has_set (took (gets b 2 []) (reply.KeyIsLocked (info_of b (lock_of asks_b 0))) locked_b) steps 1 a (Put x)
        explains run refl)
