-- The lines of a trace that were read by a walk that keeps their steps.
use Rattle.std.proofs.Common.{◌≡◌, ℕ, suc, ◌+◌, List, [], ◌∷◌, ◌++◌, length, reverse, Option, Some, None, IfSome, Ok, refl, sym, ap, subst, ◌∙◌, append_assoc, length-append, arith}
use Rattle.std.proofs.lemmas.List.{reverse-append}
use Rattle.tx_types.specs.declared.fault.Cause.{Cause}
use Rattle.tx_machine.specs.declared.machine.Machine.{Machine}
use Rattle.tx_machine.specs.declared.step.Step.{Step}
use Rattle.tx_machine.specs.Machine.{empty, table_of, IsRun}
use Rattle.tx_machine.specs.Representation.{Represents}
use Rattle.tx_text.specs.Lines.{lines_of}
use Rattle.tx_check.specs.declared.checker.LineTurn.TheVariants as turn
use Rattle.tx_check.specs.declared.explanation.StepTurn.TheVariants as with
use Rattle.tx_check.specs.Check.{step_in, Says, Reaches}
use Rattle.tx_check.specs.Turns.{Turns, StepTurns}
use Rattle.tx_check.proofs.Traces.{SoFar, Says-more, reached, left_at}

-- the lines before those that are left say this run, and the machine stands for what it leaves
pub record KeptSoFar (input : List ℕ) (left : Option (List ℕ)) (machine : Machine) (number : ℕ)
    (steps : List Step) : Type 0 where
  pub rest : List ℕ
  pub before : List (List ℕ)
  pub is_left : left ≡ Some rest
  pub split : lines_of input ≡ before ++ lines_of rest
  pub counted : length before ≡ number
  pub says : Says 1 before steps
  pub run : IsRun (reverse steps)
  pub stands : Represents machine (table_of (reverse steps))

pub kept_so_far : (known : Option (List ℕ)) (machine : Machine) (steps : List Step) → Represents machine empty
    → steps ≡ [] → IfSome known (λ input. KeptSoFar input known machine 0 steps)
kept_so_far None machine steps stands none = tt
kept_so_far (Some input) machine steps stands none =
    subst (KeptSoFar input (Some input) machine 0) (sym none) record {
      rest = input;
      before = [];
      is_left = refl;
      split = refl;
      counted = refl;
      says = tt;
      run = tt;
      stands = stands;
    }

module _ {input : List ℕ} {left : Option (List ℕ)} {machine : Machine} {number : ℕ} {steps : List Step}
    (soon : KeptSoFar input left machine number steps) where
  -- as a walk has it that does not keep them
  abbrev pub as_far : SoFar input left machine number
  as_far = record {
    rest = soon.rest;
    before = soon.before;
    steps = steps;
    is_left = soon.is_left;
    split = soon.split;
    counted = soon.counted;
    says = soon.says;
    run = soon.run;
    stands = soon.stands;
  }

  module _ (left' : Option (List ℕ)) (next : Machine) where
    -- they are those before the line whose step is refused
    pub kept_at : (step : Step) → IfSome left (λ bytes. Turns bytes left' machine next (number + 1) (turn.Refused step))
        → (line : List ℕ) × Reaches (lines_of input) (number + 1) line steps
    kept_at step turns =
        let found = left_at (λ bytes. Turns bytes left' machine next (number + 1) (turn.Refused step)) left soon.rest
        soon.is_left turns in
        (found.0, reached as_far left' next found.0 (lines_of found.1) found.3)

    -- one more line says one more step
    pub made_kept : (step : Step) (steps' : List Step)
        → IfSome left (λ bytes. StepTurns bytes left' machine next (number + 1) (with.Made step))
        → steps' ≡ steps ++ step ∷ [] → KeptSoFar input left' next (number + 1) steps'
    made_kept step steps' turns more =
        let found = left_at (λ bytes. StepTurns bytes left' machine next (number + 1) (with.Made step)) left soon.rest
        soon.is_left turns in
        let line = found.0 in
        let newest : reverse (steps ++ step ∷ []) ≡ step ∷ reverse steps = reverse-append steps (step ∷ []) in
        let place : number + 1 ≡ 1 + length soon.before = omega (arith, soon.counted) in
        let does = found.5 (table_of (reverse steps)) soon.stands in
        subst (KeptSoFar input left' next (number + 1)) (sym more) record {
          rest = found.1;
          before = soon.before ++ line ∷ [];
          is_left = found.2;
          split = soon.split ∙ ap (λ ls. soon.before ++ ls) found.3
              ∙ sym (append_assoc soon.before (line ∷ []) (lines_of found.1));
          counted = length-append soon.before (line ∷ []) ∙ ap (λ n. n + 1) soon.counted;
          says = Says-more 1 soon.before steps line step soon.says
              (subst (λ n. step_in n line ≡ Ok step) place found.4);
          run = subst IsRun (sym newest) (soon.run, does.0);
          stands = subst (λ ss. Represents next (table_of ss)) (sym newest) does.1;
        }
