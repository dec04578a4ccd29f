-- What comes of the next line of a history. Only this crate's own clauses cite it.
use Rattle.std.specs.Prelude.{◌≡◌, ◌⊎◌, ℕ, ◌+◌, ◌^◌, ◌≤◌, List, [], ◌∷◌, Option, Some}
use Rattle.tx_types.specs.declared.fault.Cause.{Cause}
use Rattle.tx_types.specs.declared.fault.Cause.TheVariants.{Lines}
use Rattle.tx_text.specs.Lines.{lines_of}
use Rattle.tx_import.specs.declared.line_content.SaidTransaction.{SaidTransaction}
use Rattle.tx_import.specs.declared.draft.Draft.{Draft}
use Rattle.tx_import.specs.declared.reader.HistoryTurn.{HistoryTurn}
use Rattle.tx_import.specs.declared.reader.HistoryTurn.TheVariants.{End, Put, Faulted}
use Rattle.tx_import.specs.Drafts.{weight, held, GrowsDraft, AddsTransaction}
use Rattle.tx_import.specs.Histories.{Says, SaysNone}

-- the transaction of the line was added
pub record Adds (old new : Draft) (said : SaidTransaction) : Type 0 where
  pub adds : AddsTransaction old new said
  pub grows : GrowsDraft old new
  pub held_is : held new ≡ held old + weight said.ops

-- the line says no transaction, or there is no room for it
abbrev pub Refuses : Draft → ℕ → List ℕ → Cause → Type 0
Refuses d number line cause = SaysNone number line cause
    ⊎ ((t : SaidTransaction) × Says number line t × (2 ^ 32 ≤ held d + weight t.ops) × (cause ≡ Lines))

-- what came of the first line of these bytes, which has this number
abbrev pub HistoryTurns : List ℕ → Option (List ℕ) → Draft → Draft → ℕ → HistoryTurn → Type 0
HistoryTurns bytes left old new number End = (bytes ≡ []) × (new ≡ old)
HistoryTurns bytes left old new number Put = (line : List ℕ) × (rest : List ℕ) × (said : SaidTransaction)
    × (left ≡ Some rest) × (lines_of bytes ≡ line ∷ lines_of rest)
    × Says number line said × Adds old new said
HistoryTurns bytes left old new number (Faulted cause) = (line : List ℕ) × (more : List (List ℕ))
    × (lines_of bytes ≡ line ∷ more) × Refuses old number line cause
