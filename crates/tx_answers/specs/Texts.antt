-- What is written of a verdict, and how it ends.
use Rattle.std.specs.Prelude.{◌≡◌, ◌⊎◌, ℕ, Bool, true, false, List, ◌++◌, codes, IsTrue}
use Rattle.tx_verdict.specs.declared.verdict.Cycle.{Cycle}
use Rattle.tx_verdict.specs.declared.verdict.Fact.{Fact}
use Rattle.tx_verdict.specs.declared.refutation.Refutation.{Refutation}
use Rattle.tx_verdict.specs.declared.verdict.HistoryVerdict.{HistoryVerdict}
use Rattle.tx_verdict.specs.declared.verdict.HistoryVerdict.TheVariants as verdict
use Rattle.tx_import.specs.declared.reader.NamedHistory.{NamedHistory}
use Rattle.tx_answers.specs.declared.answer.CycleForm.{CycleForm}
use Rattle.tx_answers.specs.declared.answer.CycleForm.TheVariants.{Line, Graph, Picture, Page}
use Rattle.tx_answers.specs.declared.answer.AnswerOptions.{AnswerOptions}
use Rattle.tx_answers.specs.declared.answer.ImportEnd.{ImportEnd}
use Rattle.tx_answers.specs.declared.answer.ImportEnd.TheVariants.{Yes, No, Open, Faulted}
use Rattle.tx_verdict_text.specs.Words.{verdict_text}
use Rattle.tx_diagram.specs.Drawings.{drawing_text, refuted_drawing}
use Rattle.tx_diagram.specs.Pictures.{picture_text, refuted_picture}
use Rattle.tx_diagram.specs.Reads.{read_drawing, read_picture}
use Rattle.tx_answers.specs.Traces.{IsTrace}
use Rattle.tx_answers.specs.Pages.{IsSection}

-- how a verdict ends
abbrev pub end_of : HistoryVerdict → ImportEnd
end_of (verdict.Yes t) = Yes
end_of (verdict.No c) = No
end_of (verdict.Refuted x) = No
end_of (verdict.Fact f) = No
end_of (verdict.Open ks) = Open
end_of verdict.Unknown = Open
end_of (verdict.Twice first second value) = Faulted

-- a cycle: its line, or what is asked for in its place
abbrev pub cycle_text : CycleForm → NamedHistory → Cycle → List ℕ
cycle_text Line h c = verdict_text h (verdict.No c)
cycle_text Graph h c = drawing_text h c
cycle_text Picture h c = picture_text h c
cycle_text Page h c = verdict_text h (verdict.No c)

-- a refutation: its line, or where that is asked for its rounds, or a picture of the last
abbrev pub refuted_text : CycleForm → NamedHistory → Refutation → List ℕ
refuted_text Line h x = verdict_text h (verdict.Refuted x)
refuted_text Graph h x = refuted_drawing h x
refuted_text Picture h x = refuted_picture h x
refuted_text Page h x = verdict_text h (verdict.Refuted x)

-- a read that cannot be: its line, or what is asked for in its place
abbrev pub read_text : CycleForm → NamedHistory → Fact → List ℕ
read_text Line h f = verdict_text h (verdict.Fact f)
read_text Graph h f = read_drawing h f
read_text Picture h f = read_picture h f
read_text Page h f = verdict_text h (verdict.Fact f)

-- the line of what is no no: among graphs as a remark, so that what is written is graphs alone
abbrev pub noted_text : CycleForm → List ℕ → List ℕ
noted_text Line line = line
noted_text Graph line = codes "// " ++ line
noted_text Picture line = line
noted_text Page line = line

-- a page is asked for
abbrev pub is_page : CycleForm → Bool
is_page Line = false
is_page Graph = false
is_page Picture = false
is_page Page = true

-- what is written of a verdict but on a page: its line, or where that is asked for the trace of a
-- yes or the drawing of a no
abbrev pub IsPlain : AnswerOptions → NamedHistory → HistoryVerdict → List ℕ → Type 0
IsPlain options h (verdict.Yes t) text = (IsTrue options.trace × IsTrace h t text)
    ⊎ (text ≡ noted_text options.form (verdict_text h (verdict.Yes t)))
IsPlain options h (verdict.No c) text = text ≡ cycle_text options.form h c
IsPlain options h (verdict.Refuted x) text = text ≡ refuted_text options.form h x
IsPlain options h (verdict.Fact f) text = text ≡ read_text options.form h f
IsPlain options h (verdict.Open ks) text = text ≡ noted_text options.form (verdict_text h (verdict.Open ks))
IsPlain options h verdict.Unknown text = text ≡ noted_text options.form (verdict_text h verdict.Unknown)
IsPlain options h (verdict.Twice first second value) text =
    text ≡ verdict_text h (verdict.Twice first second value)

abbrev pub IsTextIn : Bool → AnswerOptions → NamedHistory → HistoryVerdict → List ℕ → Type 0
IsTextIn true options h v text = IsSection h v text
IsTextIn false options h v text = IsPlain options h v text

-- what is written of a verdict: a section of a page, or not
abbrev pub IsTextOf : AnswerOptions → NamedHistory → HistoryVerdict → List ℕ → Type 0
IsTextOf options h v text = IsTextIn (is_page options.form) options h v text
