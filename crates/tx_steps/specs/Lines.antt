-- What a line says, by its bytes and its number. The causes why it says nothing are looked for in
-- the order of this page.
use Rattle.std.specs.Prelude.{ℕ, List, length, nat_lt, Option, option_and_then, Result, Err, ok_or, if◌then◌else◌}
use Rattle.serde_json.specs.Data.{Data, array}
use Rattle.serde_json.specs.Find.{as_array}
use Rattle.serde_json.specs.View.{view}
use Rattle.tx_types.specs.declared.fault.Cause.{Cause}
use Rattle.tx_types.specs.declared.fault.Cause.TheVariants.{Json, Long, Lines}
use Rattle.tx_types.specs.declared.key.Key.{Key}
use Rattle.tx_text.specs.Lines.{max_line, max_lines}
use Rattle.tx_text.specs.Parts.{json_of, parts_items}
use Rattle.tx_steps.specs.declared.line.Line.{Line}
use Rattle.tx_steps.specs.declared.line.Line.TheVariants.{Plain, Other}
use Rattle.tx_steps.specs.declared.program.Program.{Program}
use Rattle.tx_steps.specs.declared.step.Step.{Step}
use Rattle.tx_steps.specs.Steps.{Text, step_said}
use Rattle.tx_steps.specs.Bounds.{bounds_said}

-- the value that was read
abbrev pub data_of : Line → Data
data_of (Plain parts) = array (parts_items parts.now)
data_of (Other v) = view v

-- the value of a line: it is not too long, there are not too many before it, and it is JSON
abbrev pub data_said : ℕ → List ℕ → Result Data Cause
data_said number line = if nat_lt max_line (length line) then Err Long
    else (if nat_lt max_lines number then Err Lines
    else ok_or (json_of line) Json)

-- the step that a value says in a program's scripts
abbrev pub step_in : Program → Data → Option (Step Text)
step_in program d = option_and_then (step_said program) (as_array d)

-- the keys between the regions that a value says
abbrev pub bounds_in : Data → Option (List Key)
bounds_in d = option_and_then bounds_said (as_array d)
