-- What a check says that goes on after a no, as if that line were not there. Lists of lines and of
-- turns are newest first.
use Rattle.std.specs.Prelude.{◌≡◌, ◌⊎◌, ℕ, ◌+◌, Bool, true, false, cond, List, [], ◌∷◌, ◌++◌, length, reverse, Option, Ok, Err}
use Rattle.std.specs.Io.KnownBytes.{Appends}
use Rattle.tx_types.specs.declared.fault.Cause.{Cause}
use Rattle.tx_machine.specs.declared.step.Step.{Step}
use Rattle.tx_machine.specs.declared.reason.Why.{Why}
use Rattle.tx_machine.specs.Machine.{Admits, table_of}
use Rattle.tx_machine.specs.Why.{IsRefused}
use Rattle.tx_text.specs.declared.end.Broken.{Broken}
use Rattle.tx_text.specs.declared.end.Broken.TheVariants.{Output}
use Rattle.tx_text.specs.declared.end.End.{End}
use Rattle.tx_text.specs.declared.end.End.TheVariants.{Well, Faulted}
use Rattle.tx_text.specs.declared.end.End.TheVariants as ended
use Rattle.tx_text.specs.Lines.{lines_of}
use Rattle.tx_text.specs.Output.{AppendsPart}
use Rattle.tx_text.specs.Texts.{line_text}
use Rattle.tx_check.specs.declared.words.Verdict.TheVariants.{Yes, No, Fault}
use Rattle.tx_check.specs.Check.{step_in}
use Rattle.tx_check.specs.Reasons.{reason_text}
use Rattle.tx_check.specs.Words.{words}

-- what became of the step of a line: the machine made it, or it did not, for this reason
pub data Turn : Type 0 where
  Made : (step : Step) → Turn
  Left : (step : Step) (why : Why) → Turn

abbrev pub said_by : Turn → Step
said_by (Made step) = step
said_by (Left step why) = step

-- the steps that were made
abbrev pub made_in : List Turn → List Step
made_in [] = []
made_in (Made step ∷ turns) = step ∷ made_in turns
made_in (Left step why ∷ turns) = made_in turns

-- after these the machine makes the step, or does not make it for this reason
abbrev pub IsTurn : List Turn → Turn → Type 0
IsTurn turns (Made step) = Admits (table_of (made_in turns)) step
IsTurn turns (Left step why) = IsRefused (table_of (made_in turns)) step why

-- the lines say steps, and this became of them
abbrev pub AreTurns : List (List ℕ) → List Turn → Type 0
AreTurns [] [] = Unit {0}
AreTurns (line ∷ lines) (turn ∷ turns) = AreTurns lines turns × (step_in (length lines + 1) line ≡ Ok (said_by turn))
    × IsTurn turns turn
AreTurns _ _ = ⊥

-- ---- what is written

-- the line of a no, and where that is asked for the line of its reason
abbrev pub no_text : Bool → ℕ → Why → List ℕ
no_text has_reasons number why = line_text (words (No number)) ++ cond has_reasons (reason_text number why) []

-- that of each no, the oldest first
abbrev pub noes_text : Bool → List Turn → List ℕ
noes_text has_reasons [] = []
noes_text has_reasons (Made step ∷ turns) = noes_text has_reasons turns
noes_text has_reasons (Left step why ∷ turns) = noes_text has_reasons turns
    ++ no_text has_reasons (length turns + 1) why

abbrev pub has_no : List Turn → Bool
has_no [] = false
has_no (Made step ∷ turns) = has_no turns
has_no (Left step why ∷ turns) = true

-- all lines say steps: each no is told, or a yes where there is none
abbrev pub IsThrough : Bool → List (List ℕ) → List ℕ → End → Type 0
IsThrough has_reasons lines text end = (turns : List Turn) × AreTurns (reverse lines) turns
    × (text ≡ noes_text has_reasons turns ++ cond (has_no turns) [] (line_text (words Yes)))
    × (end ≡ cond (has_no turns) ended.No Well)

-- a line says none: each no before it is told, and its fault
abbrev pub IsCutOff : Bool → List (List ℕ) → List ℕ → End → Type 0
IsCutOff has_reasons lines text end = (before : List (List ℕ)) × (line : List ℕ) × (more : List (List ℕ))
    × (turns : List Turn) × (cause : Cause)
    × (lines ≡ before ++ line ∷ more) × AreTurns (reverse before) turns
    × (step_in (length before + 1) line ≡ Err cause)
    × (text ≡ noes_text has_reasons turns ++ line_text (words (Fault (length before + 1) cause))) × (end ≡ Faulted)

abbrev pub IsAllOf : Bool → List (List ℕ) → List ℕ → End → Type 0
IsAllOf has_reasons lines text end = IsThrough has_reasons lines text end ⊎ IsCutOff has_reasons lines text end

-- a check that was not broken off has written that, and nothing else
abbrev pub EndsWithAll : Bool → List ℕ → Option (List ℕ) → Option (List ℕ) → End → Type 0
EndsWithAll has_reasons input old new end = (text : List ℕ) × IsAllOf has_reasons (lines_of input) text end
    × Appends old new text

-- one that was broken off has written nothing, or where a write failed a beginning of that
abbrev pub BreaksWithAll : Bool → List ℕ → Option (List ℕ) → Option (List ℕ) → Broken → Type 0
BreaksWithAll has_reasons input old new broken = Appends old new []
    ⊎ ((broken ≡ Output) × (text : List ℕ) × (end : End) × IsAllOf has_reasons (lines_of input) text end
    × AppendsPart old new text)
