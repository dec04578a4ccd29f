-- The numbers that a recording has in place of names, and how it stands to what its lines say.
use Rattle.std.specs.Prelude.{◌≡◌, ◌≢◌, ℕ, ◌+◌, ◌≤◌, Bool, true, false, List, ◌++◌, map, length, Option, Some, None, slice_get, slice_range}
use Rattle.std.specs.List.{AllZip, AllPairs}
use Rattle.tx_recording.specs.declared.recording.Act.{Act}
use Rattle.tx_recording.specs.declared.recording.Act.TheVariants as act
use Rattle.tx_recording.specs.declared.recording.RecordedOp.{RecordedOp}
use Rattle.tx_recording.specs.declared.recording.RecordedTransaction.{RecordedTransaction}
use Rattle.tx_import.specs.declared.name.Name.{Name}
use Rattle.tx_import.specs.declared.name.Scalar.{Scalar}
use Rattle.tx_import.specs.declared.names.KeyedValue.{KeyedValue}
use Rattle.tx_import.specs.declared.line_content.SaidAct.{SaidAct}
use Rattle.tx_import.specs.declared.line_content.SaidAct.TheVariants as said
use Rattle.tx_import.specs.declared.line_content.SaidOp.{SaidOp}
use Rattle.tx_import.specs.declared.line_content.SaidTransaction.{SaidTransaction}
use Rattle.tx_import.specs.declared.draft.Tables.{Tables}

-- some were added behind the others
abbrev pub Grows : {A : Type 0} → List A → List A → Type 0
Grows {A} old new = (more : List A) × (new ≡ old ++ more)

-- no two of them are the same
abbrev pub AreApart : {A : Type 0} → List A → Type 0
AreApart xs = AllPairs (λ x y. x ≢ y) xs

-- the operations of each transaction stand behind those of the transactions before it
abbrev pub AreInTurn : List RecordedTransaction → Type 0
AreInTurn ts = AllPairs (λ t u. t.upto ≤ u.first) ts

-- the name that has this number
abbrev pub IsNameOf : List Name → ℕ → Name → Type 0
IsNameOf names n name = slice_get names n ≡ Some name

-- the value of a key that has this number
abbrev pub IsValueOf : List KeyedValue → ℕ → ℕ → Scalar → Type 0
IsValueOf values key n value = slice_get values n ≡ Some (record { key = key; value = value })

-- these numbers are those of a key's values
abbrev pub AreValuesOf : List KeyedValue → ℕ → List ℕ → List Scalar → Type 0
AreValuesOf values key ns found = AllZip (IsValueOf values key) ns found

-- an act is what was said of it
abbrev pub IsActSaid : List KeyedValue → List ℕ → ℕ → Act → SaidAct → Type 0
IsActSaid values elements key (act.Append v) (said.Append value) = IsValueOf values key v value
IsActSaid values elements key (act.Write v) (said.Write value) = IsValueOf values key v value
IsActSaid values elements key (act.Read span) (said.Read found) = (span.first + span.count ≤ length elements)
    × AreValuesOf values key (slice_range elements span.first (span.first + span.count)) found
IsActSaid values elements key (act.Read span) (said.ReadList found) = (span.first + span.count ≤ length elements)
    × AreValuesOf values key (slice_range elements span.first (span.first + span.count)) found
IsActSaid values elements key _ _ = ⊥

-- an operation is what was said of it
abbrev pub IsOpSaid : Tables → List ℕ → RecordedOp → SaidOp → Type 0
IsOpSaid tables elements op said = IsNameOf tables.keys op.key said.key
    × IsActSaid tables.values elements op.key op.act said.act

abbrev pub AreOpsSaid : Tables → List ℕ → List RecordedOp → List SaidOp → Type 0
AreOpsSaid tables elements ops said = AllZip (IsOpSaid tables elements) ops said

-- it is a read of a list
abbrev pub reads_list : SaidAct → Bool
reads_list (said.Append v) = false
reads_list (said.Write v) = false
reads_list (said.Read found) = false
reads_list (said.ReadList found) = true

-- of each operation, whether it is
abbrev pub are_lists : List SaidOp → List Bool
are_lists said = map (λ o. reads_list o.act) said

-- a process is the one that was said, where one was
abbrev pub IsProcessSaid : List Name → Option ℕ → Option Name → Type 0
IsProcessSaid processes None None = Unit {0}
IsProcessSaid processes (Some n) (Some name) = IsNameOf processes n name
IsProcessSaid processes _ _ = ⊥

-- a transaction is what was said of it
pub record IsTransactionSaid (tables : Tables) (elements : List ℕ) (ops : List RecordedOp) (t : RecordedTransaction)
    (said : SaidTransaction) : Type 0 where
  pub id : t.id ≡ said.id
  pub outcome : t.outcome ≡ said.outcome
  pub process : IsProcessSaid tables.processes t.process said.process
  pub began : t.began ≡ said.began
  pub ended : t.ended ≡ said.ended
  pub range : (t.first ≤ t.upto) × (t.upto ≤ length ops)
  pub ops_said : AreOpsSaid tables elements (slice_range ops t.first t.upto) said.ops
  pub lists : t.upto ≤ length tables.lists.items
  pub lists_said : slice_range tables.lists.items t.first t.upto ≡ are_lists said.ops
