-- What a reader has of the lines that are written for steps.
use Rattle.std.specs.Prelude.{◌≡◌, ℕ, ◌≤◌, List, All, length, map, Some, None, Ok, if◌then◌else◌}
use Rattle.serde_json.specs.Data.{Data}
use Rattle.tx_text.specs.Lines.{max_line, max_lines, NoNewline, lines_of}
use Rattle.tx_steps.specs.declared.program.Program.{Program}
use Rattle.tx_steps.specs.declared.step.Step.{Step}
use Rattle.tx_steps.specs.Steps.{Text, is_of}
use Rattle.tx_steps.specs.Lines.{data_said, step_in, bounds_in}
use Rattle.tx_step_text.specs.StepTexts.{step_data, line_of, script_text, bounds_data, bounds_line}
use Rattle.tx_step_text.specs.Sayable.{IsSayable, AreBounds}

-- at whatever place the line stands it is read as this value, unless it is too long or too many
-- lines are before it
abbrev pub IsLineOf : Data → List ℕ → Type 0
IsLineOf d line = (number : ℕ) → number ≤ max_lines → length line ≤ max_line → data_said number line ≡ Ok d

-- the line of a step is one line, and is read as that step by each program that has it, and as none
-- by any other
pub record IsReadBack (s : Step Text) : Type 0 where
  pub one : NoNewline (line_of s)
  pub read : IsLineOf (step_data s) (line_of s)
  pub says : (program : Program) → step_in program (step_data s) ≡ (if is_of program s then Some s else None)

-- so is the line of each step that a line can say
abbrev pub StepsAreReadBack : Type 0
StepsAreReadBack = (s : Step Text) → IsSayable s → IsReadBack s

-- the lines of a script are those of its steps, in their order
abbrev pub ScriptsHaveTheirLines : Type 0
ScriptsHaveTheirLines = (steps : List (Step Text)) → All IsSayable steps
    → lines_of (script_text steps) ≡ map line_of steps

-- the line that is written for keys between the regions is one line, and is read as these keys
pub record AreReadBack (keys : List Text) : Type 0 where
  pub one : NoNewline (bounds_line keys)
  pub read : IsLineOf (bounds_data keys) (bounds_line keys)
  pub says : bounds_in (bounds_data keys) ≡ Some keys

abbrev pub BoundsAreReadBack : Type 0
BoundsAreReadBack = (keys : List Text) → AreBounds keys → AreReadBack keys
