-- The lines of a trace that were read, and the machine that made their steps.
use Rattle.std.proofs.Common.{◌≡◌, ℕ, suc, ◌+◌, List, [], ◌∷◌, ◌++◌, length, reverse, Option, Some, None, IfSome, Ok, refl, sym, ap, subst, ◌∙◌, append_assoc, append-nil, add-zero, length-append, arith}
use Rattle.std.proofs.lemmas.List.{reverse-append}
use Rattle.tx_types.specs.declared.fault.Cause.{Cause}
use Rattle.tx_machine.specs.declared.machine.Machine.{Machine}
use Rattle.tx_machine.specs.declared.step.Step.{Step}
use Rattle.tx_machine.specs.Machine.{empty, table_of, IsRun}
use Rattle.tx_machine.specs.Representation.{Represents}
use Rattle.tx_check.specs.declared.checker.LineTurn.TheVariants as turn
use Rattle.tx_check.specs.declared.words.Verdict.TheVariants.{Yes, No, Fault}
use Rattle.tx_text.specs.Lines.{lines_of}
use Rattle.tx_check.specs.Check.{step_in, Says, Reaches, IsVerdict}
use Rattle.tx_check.proofs.Verdicts.{only}
use Rattle.tx_check.specs.Turns.{Turns, StandsAt}

pub if_some : {X : Type 0} {P Q : X → Type 0} (o : Option X) → ((x : X) → P x → Q x) → IfSome o P → IfSome o Q
if_some None f h = tt
if_some (Some x) f h = f x h

-- the lines before those that are left say a run, and the machine stands for what it leaves
pub record SoFar (input : List ℕ) (left : Option (List ℕ)) (machine : Machine) (number : ℕ) : Type 0 where
  pub rest : List ℕ
  pub before : List (List ℕ)
  pub steps : List Step
  pub is_left : left ≡ Some rest
  pub split : lines_of input ≡ before ++ lines_of rest
  pub counted : length before ≡ number
  pub says : Says 1 before steps
  pub run : IsRun (reverse steps)
  pub stands : Represents machine (table_of (reverse steps))

pub so_far : (known : Option (List ℕ)) (machine : Machine) → Represents machine empty
    → IfSome known (λ input. SoFar input known machine 0)
so_far None machine stands = tt
so_far (Some input) machine stands = record {
  rest = input;
  before = [];
  steps = [];
  is_left = refl;
  split = refl;
  counted = refl;
  says = tt;
  run = tt;
  stands = stands;
}

-- what holds of the bytes that are left
pub left_at : (P : List ℕ → Type 0) (left : Option (List ℕ)) (rest : List ℕ) → left ≡ Some rest → IfSome left P → P rest
left_at P left rest is turns = subst (λ o. IfSome o P) is turns

-- one more line says one more step
pub Says-more : (number : ℕ) (lines : List (List ℕ)) (steps : List Step) (line : List ℕ) (step : Step)
    → Says number lines steps → step_in (number + length lines) line ≡ Ok step
    → Says number (lines ++ line ∷ []) (steps ++ step ∷ [])
Says-more number [] [] line step says is = (subst (λ n. step_in n line ≡ Ok step) (add-zero number) is, tt)
Says-more number [] (s ∷ steps) line step says is = absurd says
Says-more number (l ∷ lines) [] line step says is = absurd says
Says-more number (l ∷ lines) (s ∷ steps) line step says is =
    let place : number + suc (length lines) ≡ (number + 1) + length lines = omega arith in
    (says.0, Says-more (number + 1) lines steps line step says.1 (subst (λ n. step_in n line ≡ Ok step) place is))

module _ {input : List ℕ} {left : Option (List ℕ)} {machine : Machine} {number : ℕ} (soon :
    SoFar input left machine number) (left' : Option (List ℕ)) (next : Machine) where
  at_rest : (t : _) → IfSome left (λ bytes. Turns bytes left' machine next (number + 1) t)
      → Turns soon.rest left' machine next (number + 1) t
  at_rest t turns = left_at (λ bytes. Turns bytes left' machine next (number + 1) t) left soon.rest soon.is_left turns

  -- at the end every line was a step
  pub ended : IfSome left (λ bytes. Turns bytes left' machine next (number + 1) turn.End)
      → IsVerdict (lines_of input) Yes
  ended turns =
      let none = at_rest turn.End turns in
      let all : lines_of input ≡ soon.before =
      soon.split ∙ ap (λ r. soon.before ++ lines_of r) none ∙ append-nil soon.before in
      only (lines_of input) Yes (soon.steps, subst (λ ls. Says 1 ls soon.steps) (sym all) soon.says, soon.run)

  -- the line that is next
  pub reached : (line : List ℕ) (more : List (List ℕ)) → lines_of soon.rest ≡ line ∷ more
      → Reaches (lines_of input) (number + 1) line soon.steps
  reached line more is = record {
    before = soon.before;
    more = more;
    split = soon.split ∙ ap (λ ls. soon.before ++ ls) is;
    numbered = ap (λ n. n + 1) (sym soon.counted);
    says = soon.says;
    run = soon.run;
  }

  -- the machine stands before the step that it refused
  pub stands_at : (step : Step) → IfSome left (λ bytes. Turns bytes left' machine next (number + 1) (turn.Refused step))
      → StandsAt (lines_of input) (number + 1) next step
  stands_at step turns =
      let found = at_rest (turn.Refused step) turns in
      let table = table_of (reverse soon.steps) in (
        found.0,
        soon.steps,
        reached found.0 (lines_of found.1) found.3,
        found.4,
        found.6 table soon.stands,
        found.5 table soon.stands,
      )

  pub refused : (step : Step) → IfSome left (λ bytes. Turns bytes left' machine next (number + 1) (turn.Refused step))
      → IsVerdict (lines_of input) (No (number + 1))
  refused step turns =
      let at = stands_at step turns in
      only (lines_of input) (No (number + 1)) (at.0, at.1, step, at.2, at.3, at.5)

  pub faulted : (cause : Cause)
      → IfSome left (λ bytes. Turns bytes left' machine next (number + 1) (turn.Faulted cause))
      → IsVerdict (lines_of input) (Fault (number + 1) cause)
  faulted cause turns =
      let found = at_rest (turn.Faulted cause) turns in
      only (lines_of input) (Fault (number + 1) cause) (found.0, soon.steps, reached found.0 found.1 found.2, found.3)

  pub made : IfSome left (λ bytes. Turns bytes left' machine next (number + 1) turn.Made)
      → SoFar input left' next (number + 1)
  made turns =
      let found = at_rest turn.Made turns in
      let line = found.0 in
      let step = found.2 in
      let newest : reverse (soon.steps ++ step ∷ []) ≡ step ∷ reverse soon.steps =
      reverse-append soon.steps (step ∷ []) in
      let place : number + 1 ≡ 1 + length soon.before = omega (arith, soon.counted) in
      let does = found.6 (table_of (reverse soon.steps)) soon.stands in
      record {
        rest = found.1;
        before = soon.before ++ line ∷ [];
        steps = soon.steps ++ step ∷ [];
        is_left = found.3;
        split = soon.split ∙ ap (λ ls. soon.before ++ ls) found.4
            ∙ sym (append_assoc soon.before (line ∷ []) (lines_of found.1));
        counted = length-append soon.before (line ∷ []) ∙ ap (λ n. n + 1) soon.counted;
        says = Says-more 1 soon.before soon.steps line step soon.says
            (subst (λ n. step_in n line ≡ Ok step) place found.5);
        run = subst IsRun (sym newest) (soon.run, does.0);
        stands = subst (λ steps. Represents next (table_of steps)) (sym newest) does.1;
      }
