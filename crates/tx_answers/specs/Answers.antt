-- What is answered of the lines of a history.
use Rattle.std.specs.Prelude.{◌≡◌, ◌⊎◌, ℕ, ◌+◌, max, Bool, true, false, List, [], Option}
use Rattle.std.specs.Io.KnownBytes.{Appends}
use Rattle.tx_text.specs.declared.end.Broken.{Broken}
use Rattle.tx_text.specs.declared.end.Broken.TheVariants.{Output}
use Rattle.tx_text.specs.Faults.{fault_words}
use Rattle.tx_text.specs.Lines.{lines_of}
use Rattle.tx_text.specs.Members.{reply_text}
use Rattle.tx_text.specs.Output.{AppendsPart}
use Rattle.tx_verdict.specs.declared.verdict.HistoryVerdict.{HistoryVerdict}
use Rattle.tx_verdict.specs.Verdicts.{IsVerdict}
use Rattle.tx_import.specs.declared.reader.NamedHistory.{NamedHistory}
use Rattle.tx_import.specs.declared.reader.LineFault.{LineFault}
use Rattle.tx_import.specs.declared.recorder.Misrecorded.{Misrecorded}
use Rattle.tx_import.specs.declared.recorder.Misrecorded.TheVariants.{Empty, EndsEarly, SameId, Mixed}
use Rattle.tx_import.specs.Histories.{IsHistoryOf, IsFaultOf}
use Rattle.tx_import.specs.Recorders.{IsMisrecorded, IsTimely, IsBareOf}
use Rattle.tx_types.specs.declared.fault.Cause.TheVariants.{Form}
use Rattle.tx_answers.specs.declared.answer.AnswerOptions.{AnswerOptions}
use Rattle.tx_answers.specs.declared.answer.ImportEnd.{ImportEnd}
use Rattle.tx_answers.specs.declared.answer.ImportEnd.TheVariants.{Faulted}
use Rattle.tx_answers.specs.Pages.{framed_text}
use Rattle.tx_answers.specs.Texts.{end_of, is_page, IsTextOf}
use Rattle.tx_answers.specs.All.{IsAllOf}

-- a verdict, and what is written of it
abbrev pub IsOne : AnswerOptions → NamedHistory → List ℕ → ImportEnd → Type 0
IsOne options h text end = (v : HistoryVerdict) × IsVerdict h.recording options.question v × IsTextOf options h v text
    × (end ≡ end_of v)

-- what is said of a history: all to the end, or a verdict
abbrev pub IsSaidTo : Bool → AnswerOptions → NamedHistory → List ℕ → ImportEnd → Type 0
IsSaidTo true options h text end = IsAllOf options h text end
IsSaidTo false options h text end = IsOne options h text end

-- the same; on a page, where that is asked for
abbrev pub IsSaid : AnswerOptions → NamedHistory → List ℕ → ImportEnd → Type 0
IsSaid options h text end = (inner : List ℕ) × IsSaidTo options.all options h inner end
    × (text ≡ framed_text (is_page options.form) inner)

-- the line that tells what a recorder got wrong
abbrev pub line_of : Misrecorded → ℕ
line_of Empty = 1
line_of (EndsEarly t) = t + 1
line_of (SameId t u) = u + 1
line_of (Mixed k t u) = max t u + 1

-- what the recorder got wrong: the fault of a line
abbrev pub IsMisread : NamedHistory → List ℕ → ImportEnd → Type 0
IsMisread h text end = (m : Misrecorded) × IsMisrecorded h m
    × (text ≡ reply_text (line_of m, fault_words Form)) × (end ≡ Faulted)

-- what is said of a history, in which maybe some have no operations that failed and of whom nobody
-- read a value; or what the recorder got wrong
abbrev pub IsHeard : AnswerOptions → NamedHistory → List ℕ → ImportEnd → Type 0
IsHeard options h text end = (IsTimely h.recording × ((b : NamedHistory) × IsBareOf h b × IsSaid options b text end))
    ⊎ IsMisread h text end

-- the recording of the lines, and what is said of it
abbrev pub IsJudged : AnswerOptions → List (List ℕ) → List ℕ → ImportEnd → Type 0
IsJudged options lines text end = (h : NamedHistory) × IsHistoryOf lines h × IsHeard options h text end

-- the first line that says no transaction, and its line
abbrev pub IsRead : List (List ℕ) → List ℕ → ImportEnd → Type 0
IsRead lines text end = (fault : LineFault) × IsFaultOf lines fault
    × (text ≡ reply_text (fault.number, fault_words fault.cause)) × (end ≡ Faulted)

-- what is answered of lines
abbrev pub IsAnswer : AnswerOptions → List (List ℕ) → List ℕ → ImportEnd → Type 0
IsAnswer options lines text end = IsJudged options lines text end ⊎ IsRead lines text end

-- an answer that was not broken off was written, and nothing else
abbrev pub WritesAnswer : AnswerOptions → List ℕ → Option (List ℕ) → Option (List ℕ) → ImportEnd
    → Type 0
WritesAnswer options input old new end = (text : List ℕ) × IsAnswer options (lines_of input) text end
    × Appends old new text

-- one that was broken off has written nothing, or where a write failed a beginning of an answer
abbrev pub Breaks : AnswerOptions → List ℕ → Option (List ℕ) → Option (List ℕ) → Broken → Type 0
Breaks options input old new broken = Appends old new []
    ⊎ ((broken ≡ Output) × (text : List ℕ) × (end : ImportEnd) × IsAnswer options (lines_of input) text end
    × AppendsPart old new text)
