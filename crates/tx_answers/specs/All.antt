-- What is told of a history to its end. Lists of verdicts are newest first.
use Rattle.std.specs.Prelude.{◌≡◌, ℕ, Bool, true, false, List, [], ◌∷◌, ◌++◌, IsTrue}
use Rattle.tx_recording.specs.declared.recording.Recording.{Recording}
use Rattle.tx_verdict.specs.declared.question.Question.{Question}
use Rattle.tx_verdict.specs.declared.verdict.HistoryVerdict.{HistoryVerdict}
use Rattle.tx_verdict.specs.declared.verdict.HistoryVerdict.TheVariants as verdict
use Rattle.tx_verdict.specs.Verdicts.{IsVerdict}
use Rattle.tx_onward.specs.Tells.{tells, told_by}
use Rattle.tx_onward.specs.Left.{IsLeft}
use Rattle.tx_import.specs.declared.reader.NamedHistory.{NamedHistory}
use Rattle.tx_answers.specs.declared.answer.AnswerOptions.{AnswerOptions}
use Rattle.tx_answers.specs.declared.answer.ImportEnd.{ImportEnd}
use Rattle.tx_answers.specs.Texts.{end_of, IsTextOf}

-- a verdict on what is left when the reads of those are taken out that these tell of
abbrev pub IsNext : Recording → Question → List HistoryVerdict → HistoryVerdict → Type 0
IsNext r asked vs v = (left : Recording) × IsLeft r (told_by r vs) left × IsVerdict left asked v

-- it tells of one that none of these tells of
abbrev pub TellsMore : Recording → List HistoryVerdict → HistoryVerdict → Type 0
TellsMore r vs v = (t : ℕ) × IsTrue (tells r v t) × (told_by r vs t ≡ false)

-- it tells of none but those that these tell of
abbrev pub TellsNoMore : Recording → List HistoryVerdict → HistoryVerdict → Type 0
TellsNoMore r vs v = (t : ℕ) → IsTrue (tells r v t) → IsTrue (told_by r vs t)

-- each is the verdict on what those before it have left, and tells of one more
abbrev pub AreNext : Recording → Question → List HistoryVerdict → Type 0
AreNext r asked [] = Unit {0}
AreNext r asked (v ∷ vs) = AreNext r asked vs × IsNext r asked vs v × TellsMore r vs v

-- ---- what is written

abbrev pub is_none : List HistoryVerdict → Bool
is_none [] = true
is_none (v ∷ vs) = false

-- what is written of a verdict: nothing of a yes that stands behind a no
abbrev pub IsOneOf : AnswerOptions → NamedHistory → Bool → HistoryVerdict → List ℕ → Type 0
IsOneOf options h true v text = IsTextOf options h v text
IsOneOf options h false (verdict.Yes t) text = text ≡ []
IsOneOf options h false v text = IsTextOf options h v text

-- what is written of each, the oldest first
abbrev pub IsTextOfAll : AnswerOptions → NamedHistory → List HistoryVerdict → List ℕ → Type 0
IsTextOfAll options h [] text = text ≡ []
IsTextOfAll options h (v ∷ vs) text = (before : List ℕ) × (one : List ℕ) × IsTextOfAll options h vs before
    × IsOneOf options h (is_none vs) v one × (text ≡ before ++ one)

-- the end is that of the oldest
abbrev pub end_of_all : HistoryVerdict → List HistoryVerdict → ImportEnd
end_of_all v [] = end_of v
end_of_all v (w ∷ ws) = end_of_all w ws

-- verdicts one after another, up to the first that tells of none but those that were told of
abbrev pub IsAllOf : AnswerOptions → NamedHistory → List ℕ → ImportEnd → Type 0
IsAllOf options h text end = (v : HistoryVerdict) × (vs : List HistoryVerdict) × AreNext h.recording options.question vs
    × IsNext h.recording options.question vs v × TellsNoMore h.recording vs v
    × IsTextOfAll options h (v ∷ vs) text × (end ≡ end_of_all v vs)
