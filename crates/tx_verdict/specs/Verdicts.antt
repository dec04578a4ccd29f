-- What a verdict says of a recording.
use Rattle.std.specs.Prelude.{ℕ, ◌≤◌, false, List, length, slice_index, slice_index_or}
use Rattle.tx_recording.specs.declared.recording.Orders.{Orders}
use Rattle.tx_recording.specs.declared.recording.Recording.{Recording}
use Rattle.tx_recording.specs.Explanations.{Explanation, Explains}
use Rattle.tx_views.specs.Owners.{IsTwice}
use Rattle.tx_verdict.specs.declared.question.Question.{Question}
use Rattle.tx_verdict.specs.declared.verdict.Fact.{Fact}
use Rattle.tx_verdict.specs.declared.verdict.Timestamps.{Timestamps}
use Rattle.tx_verdict.specs.declared.verdict.HistoryVerdict.{HistoryVerdict}
use Rattle.tx_verdict.specs.declared.verdict.HistoryVerdict.TheVariants.{Yes, No, Refuted, Fact as Found, Open, Unknown, Twice}
use Rattle.tx_verdict.specs.Facts.{IsFact}
use Rattle.tx_verdict.specs.Questions.{ExplainsAt}
use Rattle.tx_verdict.specs.Cycles.{IsCycleFor}
use Rattle.tx_verdict.specs.Refutations.{IsRefutation}
use Rattle.tx_verdict.specs.Undecided.{AreUndecided}

-- these timestamps explain the recording at the level, whatever each left being as it is
abbrev pub AreTimestampsOf : Recording → Question → Timestamps → Type 0
AreTimestampsOf r asked t = (left : ℕ → ℕ → List ℕ) × ExplainsAt r asked record {
  committed = λ i. slice_index_or t.committed.items i false;
  start = slice_index t.starts.items;
  commit = slice_index t.commits.items;
  left = left;
}

-- nothing explains it
abbrev pub IsRefused : Recording → Question → Type 0
IsRefused r asked = (x : Explanation) → ExplainsAt r asked x → ⊥

-- nothing explains it, whatever is asked for
abbrev pub IsNever : Recording → Type 0
IsNever r = (orders : Orders) (x : Explanation) → Explains r orders x → ⊥

-- what one transaction saw is as the fact says, and nothing explains it
abbrev pub IsWrong : Recording → Fact → Type 0
IsWrong r fact = IsFact r fact × IsNever r

-- yes: these timestamps explain the recording; no: nothing does, and the cycle is one of what has
-- to be so, or each order that is told is settled by a round, each clause follows, and a last round
-- closes, or one transaction saw what the fact says; open: two put into each of these keys, of
-- which there is one, that had not read it; unknown: nothing is said; twice: the first put the
-- value before the second
-- did
abbrev pub IsVerdict : Recording → Question → HistoryVerdict → Type 0
IsVerdict r asked (Yes t) = AreTimestampsOf r asked t
IsVerdict r asked (No cycle) = IsCycleFor r asked cycle × IsRefused r asked
IsVerdict r asked (Refuted x) = IsRefutation r asked x × IsRefused r asked
IsVerdict r asked (Found fact) = IsWrong r fact
IsVerdict r asked (Open keys) = (1 ≤ length keys.items) × AreUndecided r keys.items
IsVerdict r asked Unknown = Unit {0}
IsVerdict r asked (Twice first second value) = (p : ℕ) × (q : ℕ) × IsTwice r record {
  value = value;
  first = record { txn = first; place = p };
  second = record { txn = second; place = q };
}
