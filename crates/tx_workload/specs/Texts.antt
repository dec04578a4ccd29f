-- What a run writes.
use Rattle.std.specs.Prelude.{◌≡◌, ◌⊎◌, ℕ, ◌+◌, ◌<◌, ◌^◌, ◌++◌, List, All, Bool, true, false}
use Rattle.std.specs.Prelude.{codes, Option}
use Rattle.std.specs.List.{flat_map, count_by}
use Rattle.std.specs.List.Sorted.{IsPermutation, IsNonDecreasingBy}
use Rattle.std.specs.Io.KnownBytes.{Appends, Keeps}
use Rattle.serde_json.specs.Data.{no_items, item, number, unsigned, string}
use Rattle.tx_types.specs.declared.fault.Cause.{Cause}
use Rattle.tx_core.specs.declared.event.Outcome.TheVariants as outcome
use Rattle.tx_core.specs.Worlds.{IsWorldRun}
use Rattle.tx_journal.specs.Known.{Seen}
use Rattle.tx_text.specs.Faults.{fault_words}
use Rattle.tx_text.specs.Output.{AppendsPart}
use Rattle.tx_text.specs.Members.{reply_text}
use Rattle.tx_text.specs.Texts.{line_text}
use Rattle.tx_workload.specs.declared.reply.LineAnswer.{LineAnswer}
use Rattle.tx_workload.specs.declared.reply.LineAnswer.TheVariants.{Plain, Ended}
use Rattle.tx_workload.specs.declared.reply.LineReply.{LineReply}
use Rattle.tx_workload.specs.Faults.{TellsFault}
use Rattle.tx_workload.specs.Lines.{line_of}
use Rattle.tx_workload.specs.Outcomes.{TellsOutcomes}
use Rattle.tx_workload.specs.Pairs.{TellsPair}
use Rattle.tx_workload.specs.Tells.{AllTell}
use Rattle.tx_workload.specs.Totals.{TellsTotal}
use Rattle.tx_workload.specs.declared.counts.RunCounts.{RunCounts}

-- ---- how many lines are told each outcome

abbrev pub is_committed : LineAnswer → Bool
is_committed (Ended start (outcome.Committed c) keys) = true
is_committed _ = false

abbrev pub is_aborted : LineAnswer → Bool
is_aborted (Ended start outcome.Aborted keys) = true
is_aborted _ = false

abbrev pub is_unknown : LineAnswer → Bool
is_unknown (Ended start (outcome.Unknown why) keys) = true
is_unknown _ = false

abbrev pub is_read_only : LineAnswer → Bool
is_read_only (Ended start outcome.ReadOnly keys) = true
is_read_only _ = false

abbrev pub counts_of : List LineReply → RunCounts
counts_of lines = record {
  committed = count_by (λ s. is_committed s.answer) lines;
  aborted = count_by (λ s. is_aborted s.answer) lines;
  unknown = count_by (λ s. is_unknown s.answer) lines;
  read_only = count_by (λ s. is_read_only s.answer) lines;
}

-- the counts, with the outcome that one more line is told, if it is told one
abbrev pub counted : RunCounts → LineAnswer → RunCounts
counted counts (Ended start (outcome.Committed c) keys) = record counts { committed = counts.committed + 1 }
counted counts (Ended start outcome.Aborted keys) = record counts { aborted = counts.aborted + 1 }
counted counts (Ended start (outcome.Unknown why) keys) = record counts { unknown = counts.unknown + 1 }
counted counts (Ended start outcome.ReadOnly keys) = record counts { read_only = counts.read_only + 1 }
counted counts (Plain plain) = counts

-- one more of each fits
pub record IsRoomy (counts : RunCounts) : Type 0 where
  pub committed : counts.committed + 1 < 2 ^ 64
  pub aborted : counts.aborted + 1 < 2 ^ 64
  pub unknown : counts.unknown + 1 < 2 ^ 64
  pub read_only : counts.read_only + 1 < 2 ^ 64

-- ---- the two lines of sums

unfoldable pub outcomes_text : RunCounts → List ℕ
outcomes_text counts = line_text (item (string (codes "outcomes"))
    (item (number (unsigned counts.committed)) (item (number (unsigned counts.aborted))
    (item (number (unsigned counts.unknown)) (item (number (unsigned counts.read_only)) no_items)))))

-- the sum of all balances
unfoldable pub total_text : ℕ → List ℕ
total_text total = line_text (item (string (codes "total")) (item (number (unsigned total)) no_items))

-- ---- the whole text

-- these answers, in the order of their lines
pub record AreInOrder (replies lines : List LineReply) : Type 0 where
  pub same : IsPermutation replies lines
  pub rising : IsNonDecreasingBy (λ s. s.number) lines

-- a line for each of the answers and for no other, in the order of the script, and then the sums
abbrev pub IsTextOf : List LineReply → ℕ → List ℕ → Type 0
IsTextOf replies total text = (lines : List LineReply) × AreInOrder replies lines
    × (text ≡ flat_map line_of lines ++ (outcomes_text (counts_of lines) ++ total_text total))

-- the line of the fault that the script has, by the number of the line that has it
abbrev pub IsFaultText : Option (List ℕ) → List ℕ → Type 0
IsFaultText source text =
    (n : ℕ) × (cause : Cause) × TellsFault source n cause × (text ≡ reply_text (n, fault_words cause))

-- the text of some run of this script: each outcome that it tells was answered in what its
-- sessions had seen, of which its answers and its total tell
abbrev pub IsTextFrom : Option (List ℕ) → List ℕ → Type 0
IsTextFrom source text = IsFaultText source text
    ⊎ ((seen : Seen) × (replies : List LineReply) × (total : ℕ) × IsWorldRun seen.bounds seen.events
    × TellsOutcomes seen.events replies × All (TellsPair source) replies × AllTell source seen replies
    × TellsTotal seen replies total × IsTextOf replies total text)

-- ---- what is written

-- such a text, and nothing else
abbrev pub WritesText : Option (List ℕ) → Option (List ℕ) → (List ℕ → Type 0) → Type 0
WritesText old new IsText = (text : List ℕ) × IsText text × Appends old new text

-- a beginning of such a text, or nothing
abbrev pub WritesPart : Option (List ℕ) → Option (List ℕ) → (List ℕ → Type 0) → Type 0
WritesPart old new IsText = Keeps old new ⊎ ((text : List ℕ) × IsText text × AppendsPart old new text)
