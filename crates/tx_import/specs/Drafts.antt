-- What a recording holds as its lines come. Only this crate's own clauses cite it.
use Rattle.std.specs.Prelude.{◌≡◌, ℕ, ◌+◌, ◌^◌, ◌<◌, ◌≤◌, List, [], ◌∷◌, ◌++◌, length, All}
use Rattle.std.specs.List.{AllZip}
use Rattle.tx_recording.specs.declared.recording.Act.{Act}
use Rattle.tx_recording.specs.declared.recording.Act.TheVariants as act
use Rattle.tx_recording.specs.declared.recording.RecordedOp.{RecordedOp}
use Rattle.tx_recording.specs.declared.recording.RecordedTransaction.{RecordedTransaction}
use Rattle.tx_recording.specs.Recordings.{IsTransactionOf}
use Rattle.tx_import.specs.declared.line_content.SaidAct.{SaidAct}
use Rattle.tx_import.specs.declared.line_content.SaidAct.TheVariants.{Append, Write, Read, ReadList}
use Rattle.tx_import.specs.declared.line_content.SaidOp.{SaidOp}
use Rattle.tx_import.specs.declared.line_content.SaidTransaction.{SaidTransaction}
use Rattle.tx_import.specs.declared.draft.Tables.{Tables}
use Rattle.tx_import.specs.declared.draft.Draft.{Draft}
use Rattle.tx_import.specs.Numbers.{Grows, AreInTurn, AreOpsSaid, IsTransactionSaid}

-- how many values were read
abbrev pub width : SaidAct → ℕ
width (Append v) = 0
width (Write v) = 0
width (Read vs) = length vs
width (ReadList vs) = length vs

-- how many operations there are, and values that they read
abbrev pub weight : List SaidOp → ℕ
weight [] = 0
weight (o ∷ os) = (1 + width o.act) + weight os

-- how many operations a draft holds, and values that they read
abbrev pub held : Draft → ℕ
held d = length d.ops.items + length d.elements.items

-- names were added
pub record GrowsTables (old new : Tables) : Type 0 where
  pub keys : Grows old.keys new.keys
  pub values : Grows old.values new.values
  pub lists : Grows old.lists.items new.lists.items
  pub processes : Grows old.processes new.processes

-- names, operations and values that were read were added
pub record GrowsDraft (old new : Draft) : Type 0 where
  pub tables : GrowsTables old.tables new.tables
  pub ops : Grows old.ops.items new.ops.items
  pub elements : Grows old.elements.items new.elements.items

-- what an operation names is there
abbrev pub IsActIn : ℕ → ℕ → Act → Type 0
IsActIn values elements (act.Append v) = v < values
IsActIn values elements (act.Write v) = v < values
IsActIn values elements (act.Read span) = span.first + span.count ≤ elements

abbrev pub IsOpIn : ℕ → ℕ → ℕ → RecordedOp → Type 0
IsOpIn keys values elements o = (o.key < keys) × IsActIn values elements o.act

-- all that is named is there; there are no more names than operations that name them, and few of
-- all
pub record FitsOps (d : Draft) : Type 0 where
  pub keys : length d.tables.keys ≤ length d.ops.items
  pub values : length d.tables.values ≤ held d
  pub lists : length d.tables.lists.items ≡ length d.ops.items
  pub few : held d < 2 ^ 32
  pub ops : All (IsOpIn (length d.tables.keys) (length d.tables.values) (length d.elements.items)) d.ops.items
  pub elements : All (λ v. v < length d.tables.values) d.elements.items

-- nor more processes than transactions, and the operations of each transaction are there, behind
-- those of the transactions before it
pub record FitsDraft (d : Draft) : Type 0 where
  pub fits : FitsOps d
  pub processes : length d.tables.processes ≤ length d.transactions.items
  pub ranges : All (IsTransactionOf (length d.ops.items)) d.transactions.items
  pub in_turn : AreInTurn d.transactions.items

-- operations were added that are what was said of them
abbrev pub AddsOps : Draft → Draft → List SaidOp → Type 0
AddsOps old new said = (ops : List RecordedOp) × (new.ops.items ≡ old.ops.items ++ ops)
    × AreOpsSaid new.tables new.elements.items ops said

-- a transaction was added that is what was said of it
abbrev pub AddsTransaction : Draft → Draft → SaidTransaction → Type 0
AddsTransaction old new said = (t : RecordedTransaction) × (new.transactions.items ≡ old.transactions.items ++ t ∷ [])
    × IsTransactionSaid new.tables new.elements.items new.ops.items t said

-- the transactions are what was said of them, one by one
abbrev pub IsDraftOf : Draft → List SaidTransaction → Type 0
IsDraftOf d said =
    AllZip (IsTransactionSaid d.tables d.elements.items d.ops.items) d.transactions.items said
