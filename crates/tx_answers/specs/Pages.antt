-- A page of verdicts: of each its line, why it is one, and its pictures.
use Rattle.std.specs.Prelude.{◌≡◌, ℕ, Bool, true, false, List, [], ◌++◌, codes}
use Rattle.tx_verdict.specs.declared.verdict.HistoryVerdict.{HistoryVerdict}
use Rattle.tx_verdict.specs.declared.verdict.HistoryVerdict.TheVariants as verdict
use Rattle.tx_import.specs.declared.reader.NamedHistory.{NamedHistory}
use Rattle.tx_ring.specs.Markup.{marked}
use Rattle.tx_verdict_text.specs.Words.{verdict_text}
use Rattle.tx_diagram.specs.Pictures.{picture_text, refuted_pictures}
use Rattle.tx_diagram.specs.Reads.{read_picture}
use Rattle.tx_answers.specs.declared.frame.TheConstants.{PAGE_HEAD, PAGE_FOOT}

-- the pictures of a no: of a cycle, of each round of a refutation, of a read that cannot be
abbrev pub pictures_text : NamedHistory → HistoryVerdict → List ℕ
pictures_text h (verdict.No c) = picture_text h c
pictures_text h (verdict.Refuted x) = refuted_pictures h x
pictures_text h (verdict.Fact f) = read_picture h f
pictures_text h v = []

-- a line, what is said of it, and pictures
abbrev pub section_text : List ℕ → List ℕ → List ℕ → List ℕ
section_text line why pictures = codes "<section>\n<pre>" ++ (marked line ++ (codes "</pre>\n<p>"
    ++ (marked why ++ (codes "</p>\n" ++ (pictures ++ codes "</section>\n")))))

-- a verdict on a page: its line, its pictures, and some words that say why it is one
abbrev pub IsSection : NamedHistory → HistoryVerdict → List ℕ → Type 0
IsSection h v text = (why : List ℕ) × (text ≡ section_text (verdict_text h v) why (pictures_text h v))

-- what stands on a page, within its frame
abbrev pub framed_text : Bool → List ℕ → List ℕ
framed_text true inner = PAGE_HEAD.now ++ (inner ++ PAGE_FOOT.now)
framed_text false inner = inner
