-- What a machine makes of the next line of a trace, and where the walk over the lines stops.
-- Only this crate's own clauses cite it.
use Rattle.std.specs.Prelude.{◌≡◌, ℕ, List, [], ◌∷◌, reverse, Option, Some, Ok, Err}
use Rattle.tx_machine.specs.declared.machine.Machine.{Machine}
use Rattle.tx_machine.specs.declared.step.Step.{Step}
use Rattle.tx_machine.specs.Machine.{Admits, table_of}
use Rattle.tx_machine.specs.Representation.{Represents, Makes, Refuses, Keeps}
use Rattle.tx_check.specs.declared.checker.LineTurn.{LineTurn}
use Rattle.tx_check.specs.declared.checker.LineTurn.TheVariants.{End, Made, Refused, Faulted}
use Rattle.tx_check.specs.declared.checker.Halt.{Halt}
use Rattle.tx_check.specs.declared.checker.Halt.TheVariants as stop
use Rattle.tx_check.specs.declared.explanation.StepTurn.{StepTurn}
use Rattle.tx_check.specs.declared.explanation.StepTurn.TheVariants as with
use Rattle.tx_check.specs.declared.words.Verdict.{Verdict}
use Rattle.tx_check.specs.declared.words.Verdict.TheVariants.{Yes, No, Fault}
use Rattle.tx_text.specs.Lines.{lines_of}
use Rattle.tx_check.specs.Check.{step_in, Reaches}

-- what came of the first line of these bytes, which has this number, at a machine
abbrev pub Turns : List ℕ → Option (List ℕ) → Machine → Machine → ℕ → LineTurn → Type 0
Turns bytes left old new number End = bytes ≡ []
Turns bytes left old new number Made = (line : List ℕ) × (rest : List ℕ) × (step : Step)
    × (left ≡ Some rest) × (lines_of bytes ≡ line ∷ lines_of rest)
    × (step_in number line ≡ Ok step) × Makes old new step
Turns bytes left old new number (Refused step) = (line : List ℕ) × (rest : List ℕ)
    × (left ≡ Some rest) × (lines_of bytes ≡ line ∷ lines_of rest)
    × (step_in number line ≡ Ok step) × Refuses old step × Keeps old new
Turns bytes left old new number (Faulted cause) = (line : List ℕ) × (more : List (List ℕ))
    × (lines_of bytes ≡ line ∷ more)
    × (step_in number line ≡ Err cause)

-- what it says of the lines
abbrev pub verdict_of : Halt → Verdict
verdict_of stop.End = Yes
verdict_of (stop.Refused number machine step) = No number
verdict_of (stop.Faulted number cause) = Fault number cause

-- the line of this number says this step, which the machine does not make: it stands where the
-- lines before have left it
abbrev pub StandsAt : List (List ℕ) → ℕ → Machine → Step → Type 0
StandsAt lines number machine step = (line : List ℕ) × (steps : List Step) × Reaches lines number line steps
    × (step_in number line ≡ Ok step) × Represents machine (table_of (reverse steps))
    × (Admits (table_of (reverse steps)) step → ⊥)

-- a walk over the lines that stops at a refused step has the machine that stands before it
abbrev pub Stops : List (List ℕ) → Halt → Type 0
Stops lines (stop.Refused number machine step) = StandsAt lines number machine step
Stops lines _ = Unit {0}

-- the same of a turn that comes with its step
abbrev pub StepTurns : List ℕ → Option (List ℕ) → Machine → Machine → ℕ → StepTurn → Type 0
StepTurns bytes left old new number with.End = Turns bytes left old new number End
StepTurns bytes left old new number (with.Made step) = (line : List ℕ) × (rest : List ℕ)
    × (left ≡ Some rest) × (lines_of bytes ≡ line ∷ lines_of rest)
    × (step_in number line ≡ Ok step) × Makes old new step
StepTurns bytes left old new number (with.Refused step) = Turns bytes left old new number (Refused step)
StepTurns bytes left old new number (with.Faulted cause) = Turns bytes left old new number (Faulted cause)

-- these are the steps of the lines before the one whose step was refused
abbrev pub IsKept : List (List ℕ) → Halt → List Step → Type 0
IsKept lines (stop.Refused number machine step) steps = (line : List ℕ) × Reaches lines number line steps
IsKept lines _ steps = Unit {0}
