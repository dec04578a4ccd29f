-- What sessions do: numbers that do not rise, transactions that begin at no number or twice, that
-- declare too early, twice, nothing, or a key twice, and answers that nobody may give.
use Rattle.std.proofs.Common.{◌≡◌, ◌⊎◌, inl, inr, List, [], ◌∷◌, None, refl, ap, arith}
use Rattle.tx_types.specs.declared.mutation.Change.{Change}
use Rattle.tx_types.specs.declared.mutation.Mutation.TheVariants.{Put}
use Rattle.tx_types.specs.declared.mutation.Fate.TheVariants.{Committed, Aborted}
use Rattle.tx_machine.specs.declared.step.Step.TheVariants as step
use Rattle.tx_machine.specs.Machine.{changes_in, table_of}
use Rattle.tx_core.specs.declared.event.Declaration.{Declaration}
use Rattle.tx_core.specs.declared.event.Outcome.TheVariants as outcome
use Rattle.tx_core.specs.declared.event.Event.TheVariants.{Drawn, Began, Declared, Answered}
use Rattle.tx_core.specs.Histories.{History}
use Rattle.tx_core.specs.EventSteps.{IsStepOf}
use Rattle.tx_core.specs.Worlds.{IsWorldRun}
use Rattle.tx_needed.specs.Needed.{IsNeeded, IsExplained}
use Rattle.tx_needed.specs.Rules.{DrawsAny, BeginsUndrawn, BeginsAgain, DeclaresUnbegun, DeclaresAgain, DeclaresNothing, DeclaresTwice, AnswersCommitted, AnswersAborted, AnswersReadOnly, AnswersUnbegun}
use Rattle.tx_needed.proofs.Machine.{kept_set, kept_last, undrawn, never_began}
use Rattle.tx_needed.proofs.Steps.{Stands, set_stands, in_stands, no_steps}
use Rattle.tx_needed.proofs.Unexplained.{refuses, tells_other, tells_open}
use Rattle.tx_needed.proofs.Words.{a, x, only, async, async_a, starts}
use Rattle.tx_needed.proofs.Needs.{at_last}
use Rattle.tx_needed.proofs.histories.OneKey.{declared_async, declared_async_run, committed_3, committed_3_run}

abbrev only_a : List Change
only_a = only a (Put x)

-- ---- a number is drawn again

abbrev drew_1 : History
drew_1 = Drawn 1 1 ∷ []

pub draws : IsNeeded DrawsAny
draws =
    at_last drew_1 (Drawn 1 1) (tt, omega arith) tt
    (refuses drew_1 (Drawn 1 1) (step.Draw 1) refl
    (λ steps has only run may. omega (arith, kept_last steps 1 run (has (step.Draw 1) (inl refl)), may)))

-- ---- a transaction begins at a number that nobody drew, or again

pub begins_undrawn : IsNeeded BeginsUndrawn
begins_undrawn =
    at_last [] (Began 1) tt refl
    (refuses [] (Began 1) (step.Begin 1) refl
    (λ steps has only run may. (let never = undrawn steps 1 (λ drew. no_draw (only (step.Draw 1) drew)) in
    let drawn = may.0 in cc (never, drawn))))
  where
    no_draw : (step.Draw 1 ≡ step.Begin 1) ⊎ ⊥ → ⊥
    no_draw (inl e) = (cc (e))
    no_draw (inr e) = e

pub begins_again : IsNeeded BeginsAgain
begins_again =
    at_last declared_async (Began 1) declared_async_run (λ e. (cc (e)))
    (refuses declared_async (Began 1) (step.Begin 1) refl
    (λ steps has only run may. (let some = kept_set steps 1 only_a run
    (has (step.Declare 1 only_a) (set_stands declared_async 1 (λ e. (cc (e))))) in
    let none = ap changes_in may.1 in cc (none, some))))

-- ---- it declares before it began, or again

pub declares_unbegun : IsNeeded DeclaresUnbegun
declares_unbegun =
    at_last drew_1 (Declared async_a) (tt, omega arith) (refl, (λ e. (cc (e))), (refl, tt))
    (refuses drew_1 (Declared async_a) (step.Declare 1 only_a) refl
    (λ steps has only run may. (let none = never_began steps 1 run (λ began. no_begin (only (step.Begin 1) began)) in
    let some = may.0 in cc (none, some))))
  where
    no_begin : IsStepOf drew_1 (Declared async_a) (step.Begin 1) ⊎ Stands drew_1 (step.Begin 1) → ⊥
    no_begin (inl e) = (cc (e))
    no_begin (inr (inl e)) = (cc (e))
    no_begin (inr (inr never)) = never

pub declares_again : IsNeeded DeclaresAgain
declares_again =
    at_last declared_async (Declared async_a) declared_async_run
    (refl, (λ e. (cc (e))), (refl, tt))
    (refuses declared_async (Declared async_a) (step.Declare 1 only_a) refl
    (λ steps has only run may. (let some = kept_set steps 1 only_a run
    (has (step.Declare 1 only_a) (set_stands declared_async 1 (λ e. (cc (e))))) in
    let none = ap changes_in may.0 in cc (none, some))))

-- ---- it declares nothing, or a key twice

abbrev drew_2 : History
drew_2 = Drawn 1 2 ∷ starts 1 1 []

drew_2_run : IsWorldRun [] drew_2
drew_2_run = (((tt, omega arith), ((λ e. (cc (e))), refl)), omega arith)

abbrev of_none : Declaration
of_none = async 1 2 []

pub declares_nothing : IsNeeded DeclaresNothing
declares_nothing =
    at_last drew_2 (Declared of_none) drew_2_run (refl, refl, tt)
    (refuses drew_2 (Declared of_none) (step.Declare 1 []) refl (λ steps has only run may. may.1 refl))

abbrev of_twice : Declaration
of_twice = async 1 2 (record { key = a; mutation = Put x } ∷ only a (Put x))

pub declares_twice : IsNeeded DeclaresTwice
declares_twice =
    at_last drew_2 (Declared of_twice) drew_2_run (refl, refl, (λ e. (cc (e))))
    (refuses drew_2 (Declared of_twice) (step.Declare 1 of_twice.changes) refl
    (λ steps has only run may. (let no_second = may.2.0 in cc (no_second))))

-- ---- its session answers what it does not know: the transaction is committed at 3

pub answers_committed : IsNeeded AnswersCommitted
answers_committed =
    at_last committed_3 (Answered 1 (outcome.Committed 4)) committed_3_run refl
    (tells_other committed_3 (Answered 1 (outcome.Committed 4)) 1 (Committed 3) (Committed 4) refl (λ table true. true)
    (λ e. (cc (e))))

pub answers_aborted : IsNeeded AnswersAborted
answers_aborted =
    at_last committed_3 (Answered 1 outcome.Aborted) committed_3_run refl
    (tells_other committed_3 (Answered 1 outcome.Aborted) 1 (Committed 3) Aborted refl (λ table true. true)
    (λ e. (cc (e))))

pub answers_read_only : IsNeeded AnswersReadOnly
answers_read_only =
    at_last committed_3 (Answered 1 outcome.ReadOnly) committed_3_run refl
    (tells_open committed_3 (Answered 1 outcome.ReadOnly) 1 (Committed 3) refl (λ table true. true))

-- it answers before its transaction began
pub answers_unbegun : IsNeeded AnswersUnbegun
answers_unbegun = at_last [] (Answered 1 outcome.ReadOnly) tt refl no_row
  where
    no_row : IsExplained (Answered 1 outcome.ReadOnly ∷ []) → ⊥
    no_row (steps, explains, run, ends) =
        let none = no_steps steps
        (λ s has. elim (in_stands (Answered 1 outcome.ReadOnly ∷ []) steps s explains has) [ inl e ↦ e | inr e ↦ e ]) in
        let empty_row : (table_of steps).row 1 ≡ None = ap (λ ys. (table_of ys).row 1) none in
        let told = explains.5 in
        cc (empty_row, told)
