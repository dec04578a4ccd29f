-- Which lines of a script a run takes, and of which fault it tells.
use Rattle.std.specs.Prelude.{◌≡◌, ◌⊎◌, ℕ, ◌+◌, ◌-◌, ◌<◌, ◌≤◌, ◌==◌, ◌&&◌, ◌||◌, Bool, if◌then◌else◌}
use Rattle.std.specs.Prelude.{List, length, slice_get, Option, Some, None, is_some, IfSome, Result, Ok, Err}
use Rattle.serde_json.specs.Data.{Data}
use Rattle.tx_types.specs.declared.fault.Cause.{Cause}
use Rattle.tx_types.specs.declared.fault.Cause.TheVariants.{Form, Sessions}
use Rattle.tx_types.specs.declared.limits.TheConstants.{MAX_LIVE_SESSIONS}
use Rattle.tx_text.specs.Lines.{lines_of}
use Rattle.tx_steps.specs.declared.program.Program.TheVariants.{Run}
use Rattle.tx_steps.specs.Lines.{data_said, step_in, bounds_in}

-- line 1 may say the keys between the regions
abbrev pub opens : ℕ → Data → Bool
opens number d = (number == 1) && is_some (bounds_in d)

-- why a run does not take a line of this number: it says nothing, or neither a step of a run nor,
-- in line 1, the keys between the regions
abbrev pub refused_as : ℕ → Result Data Cause → Option Cause
refused_as number (Err cause) = Some cause
refused_as number (Ok d) = if opens number d || is_some (step_in Run d) then None else Some Form

abbrev pub fault_of : ℕ → List ℕ → Option Cause
fault_of number line = refused_as number (data_said number line)

-- so many sessions are as many as may live, and one more is refused for this cause
abbrev pub IsTooMany : ℕ → Cause → Type 0
IsTooMany sessions cause = (cause ≡ Sessions) × (MAX_LIVE_SESSIONS ≤ sessions)

-- a line that was taken beside so many sessions has no fault; one that was not has this one, or it
-- begins one session too many
abbrev pub TakesLine : ℕ → List ℕ → ℕ → Result (Unit {0}) Cause → Type 0
TakesLine number line sessions (Ok taken) = fault_of number line ≡ None
TakesLine number line sessions (Err cause) =
    (fault_of number line ≡ Some cause) ⊎ ((fault_of number line ≡ None) × IsTooMany sessions cause)

-- no line of the text before the one of this number has a fault
abbrev pub NoneBefore : List ℕ → ℕ → Type 0
NoneBefore text number =
    (k : ℕ) (line : List ℕ) → k + 1 < number → slice_get (lines_of text) k ≡ Some line → fault_of (k + 1) line ≡ None

-- no line of the text has one, where the text is known
abbrev pub IsFaultless : Option (List ℕ) → Type 0
IsFaultless source = IfSome source (λ text. NoneBefore text (length (lines_of text) + 1))

-- The line of this number is the first that has a fault, and it has this one; or it begins one
-- session too many, and so has a line before it for each of them.
pub record HasFault (text : List ℕ) (number : ℕ) (cause : Cause) : Type 0 where
  pub line : List ℕ
  pub stands : slice_get (lines_of text) (number - 1) ≡ Some line
  pub fault : (fault_of number line ≡ Some cause) ⊎ ((fault_of number line ≡ None) × IsTooMany (number - 1) cause)
  pub first : NoneBefore text number

-- the text has this fault, where the text is known
abbrev pub TellsFault : Option (List ℕ) → ℕ → Cause → Type 0
TellsFault source number cause = IfSome source (λ text. HasFault text number cause)
