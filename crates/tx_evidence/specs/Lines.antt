-- What lines of a script say: the keys between the regions, and steps.
use Rattle.std.specs.Prelude.{ℕ, List, [], ◌∷◌, Option, Some, None, Result, Ok, Err}
use Rattle.serde_json.specs.Data.{Data}
use Rattle.tx_types.specs.declared.fault.Cause.{Cause}
use Rattle.tx_types.specs.declared.key.Key.{Key}
use Rattle.tx_steps.specs.declared.program.Program.{Program}
use Rattle.tx_steps.specs.declared.step.Step.{Step}
use Rattle.tx_steps.specs.Steps.{Text}
use Rattle.tx_steps.specs.Lines.{data_said, step_in, bounds_in}

-- the keys between the regions, where a value says some
abbrev pub bounds_by : Option (List Key) → List Key
bounds_by None = []
bounds_by (Some ks) = ks

abbrev pub bounds_at : Result Data Cause → List Key
bounds_at (Ok d) = bounds_by (bounds_in d)
bounds_at (Err c) = []

-- the keys between the regions of a script: line 1 says them, or there is one region
abbrev pub bounds_of : List (List ℕ) → List Key
bounds_of [] = []
bounds_of (line ∷ lines) = bounds_at (data_said 1 line)

-- the step of a program's scripts that a line says, if it says one
abbrev pub step_by : Program → Result Data Cause → Option (Step Text)
step_by program (Ok d) = step_in program d
step_by program (Err c) = None
