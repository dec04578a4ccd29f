-- What a check of a trace says. Lists of steps that a run is made of are newest first.
use Rattle.std.specs.Prelude.{◌≡◌, ◌⊎◌, ℕ, ◌+◌, List, [], ◌∷◌, ◌++◌, reverse, nat_lt, length, Option, Some, None, Result, Ok, Err, if◌then◌else◌}
use Rattle.std.specs.Io.KnownBytes.{Appends}
use Rattle.serde_json.specs.Data.{Data}
use Rattle.tx_types.specs.declared.fault.Cause.{Cause}
use Rattle.tx_types.specs.declared.fault.Cause.TheVariants.{Json, Form, Long, Lines}
use Rattle.tx_machine.specs.declared.step.Step.{Step}
use Rattle.tx_machine.specs.declared.reason.Why.{Why}
use Rattle.tx_machine.specs.Machine.{Admits, table_of, IsRun}
use Rattle.tx_machine.specs.Why.{IsRefused}
use Rattle.tx_text.specs.declared.end.Broken.{Broken}
use Rattle.tx_text.specs.declared.end.Broken.TheVariants.{Output}
use Rattle.tx_text.specs.declared.end.End.{End}
use Rattle.tx_text.specs.declared.end.End.TheVariants.{Well, Faulted}
use Rattle.tx_text.specs.declared.end.End.TheVariants as ended
use Rattle.tx_check.specs.declared.words.Verdict.{Verdict}
use Rattle.tx_check.specs.declared.words.Verdict.TheVariants.{Yes, No, Fault}
use Rattle.tx_text.specs.Lines.{lines_of, max_line, max_lines}
use Rattle.tx_text.specs.Parts.{json_of}
use Rattle.tx_check.specs.MachineSteps.{step_of}
use Rattle.tx_check.specs.Reasons.{reason_text}
use Rattle.tx_check.specs.Writers.{writer_text}
use Rattle.tx_text.specs.Output.{AppendsPart}
use Rattle.tx_text.specs.Texts.{line_text}
use Rattle.tx_check.specs.Words.{words}

-- a value that says no step is `form`
abbrev pub step_of_form : Option Step → Result Step Cause
step_of_form None = Err Form
step_of_form (Some step) = Ok step

-- a line without a value is `json`
abbrev pub step_of_json : Option Data → Result Step Cause
step_of_json None = Err Json
step_of_json (Some d) = step_of_form (step_of d)

-- the step that the line of this number says, or why it says none: the causes are looked
-- for in this order
abbrev pub step_in : ℕ → List ℕ → Result Step Cause
step_in number line =
    if nat_lt max_line (length line) then Err Long
    else (if nat_lt max_lines number then Err Lines
    else step_of_json (json_of line))

-- the lines, the first of which has this number, say these steps one by one
abbrev pub Says : ℕ → List (List ℕ) → List Step → Type 0
Says number [] [] = Unit {0}
Says number (line ∷ lines) (step ∷ steps) = (step_in number line ≡ Ok step) × Says (number + 1) lines steps
Says number _ _ = ⊥

-- the line of this number, and the lines before it, which say a run
pub record Reaches (lines : List (List ℕ)) (number : ℕ) (line : List ℕ) (steps : List Step) : Type 0 where
  pub before : List (List ℕ)
  pub more : List (List ℕ)
  pub split : lines ≡ before ++ line ∷ more
  pub numbered : number ≡ length before + 1
  pub says : Says 1 before steps
  pub run : IsRun (reverse steps)

-- what a check says of lines: yes where they say a run; no at the first line whose step the machine
-- does not make; a fault at the first line that says no step
abbrev pub Decides : List (List ℕ) → Verdict → Type 0
Decides lines Yes = (steps : List Step) × Says 1 lines steps × IsRun (reverse steps)
Decides lines (No number) = (line : List ℕ) × (steps : List Step) × (step : Step) × Reaches lines number line steps
    × (step_in number line ≡ Ok step) × (Admits (table_of (reverse steps)) step → ⊥)
Decides lines (Fault number cause) = (line : List ℕ) × (steps : List Step) × Reaches lines number line steps
    × (step_in number line ≡ Err cause)

-- a verdict that is the only one
abbrev pub IsVerdict : List (List ℕ) → Verdict → Type 0
IsVerdict lines verdict = Decides lines verdict × ((other : Verdict) → Decides lines other → other ≡ verdict)

-- how a check ends
abbrev pub end_of : Verdict → End
end_of Yes = Well
end_of (No number) = ended.No
end_of (Fault number cause) = Faulted

-- a check that was not broken off has written the line of its verdict, and nothing else
abbrev pub WritesVerdict : List ℕ → Option (List ℕ) → Option (List ℕ) → End → Type 0
WritesVerdict input old new end = (verdict : Verdict) × IsVerdict (lines_of input) verdict
    × Appends old new (line_text (words verdict)) × (end ≡ end_of verdict)

-- a check that was broken off has written nothing, or where a write failed a beginning of that line
abbrev pub Breaks : List ℕ → Option (List ℕ) → Option (List ℕ) → Broken → Type 0
Breaks input old new broken = Appends old new []
    ⊎ ((broken ≡ Output) × (verdict : Verdict) × IsVerdict (lines_of input) verdict
    × AppendsPart old new (line_text (words verdict)))

-- ---- with the reason of a no

-- why the step of the line of this number is not made: so it is in the table that the steps of the
-- lines before leave
abbrev pub IsReason : List (List ℕ) → ℕ → Why → Type 0
IsReason lines number why = (line : List ℕ) × (steps : List Step) × (step : Step) × Reaches lines number line steps
    × (step_in number line ≡ Ok step) × IsRefused (table_of (reverse steps)) step why

-- what is written of a verdict: its line, and after a no the line of a reason, and that of who
-- wrote what a read claims, by the steps of the lines before
abbrev pub Explained : List (List ℕ) → Verdict → List ℕ → Type 0
Explained lines (No number) text = (why : Why) × (line : List ℕ) × (steps : List Step) × IsReason lines number why
    × Reaches lines number line steps
    × (text ≡ line_text (words (No number)) ++ (reason_text number why ++ writer_text steps number why))
Explained lines verdict text = text ≡ line_text (words verdict)

-- a check that was not broken off has written that, and nothing else
abbrev pub EndsWithReason : List ℕ → Option (List ℕ) → Option (List ℕ) → End → Type 0
EndsWithReason input old new end = (verdict : Verdict) × (text : List ℕ) × IsVerdict (lines_of input) verdict
    × Explained (lines_of input) verdict text × Appends old new text × (end ≡ end_of verdict)

-- a check that was broken off has written nothing, or where a write failed a beginning of that
abbrev pub BreaksWithReason : List ℕ → Option (List ℕ) → Option (List ℕ) → Broken → Type 0
BreaksWithReason input old new broken = Appends old new []
    ⊎ ((broken ≡ Output) × (verdict : Verdict) × (text : List ℕ) × IsVerdict (lines_of input) verdict
    × Explained (lines_of input) verdict text × AppendsPart old new text)
