-- The step that a line of a run's script says, by its number.
use Rattle.std.specs.Prelude.{◌≡◌, ℕ, ◌-◌, List, slice_get, true, Option, is_some, option_and_then, IfSome}
use Rattle.tx_text.specs.Lines.{lines_of}
use Rattle.tx_steps.specs.declared.program.Program.TheVariants.{Run}
use Rattle.tx_steps.specs.declared.step.Step.{Step}
use Rattle.tx_steps.specs.Steps.{Text}
use Rattle.tx_steps.specs.Lines.{data_said}
use Rattle.tx_evidence.specs.Lines.{step_by}

-- the step of a run that the line of this number says, where the text has such a line
abbrev pub step_at : List ℕ → ℕ → Option (Step Text)
step_at text number = option_and_then (λ line. step_by Run (data_said number line))
    (slice_get (lines_of text) (number - 1))

-- the line of this number says this step, or none; where the text is known
abbrev pub Says : Option (List ℕ) → ℕ → Option (Step Text) → Type 0
Says source number said = IfSome source (λ text. step_at text number ≡ said)

-- it says one, where the text is known
abbrev pub SaysStep : Option (List ℕ) → ℕ → Type 0
SaysStep source number = IfSome source (λ text. is_some (step_at text number) ≡ true)
