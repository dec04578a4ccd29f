-- What stands in a recording.
use Rattle.std.specs.Prelude.{ℕ, ◌+◌, ◌^◌, ◌<◌, ◌≤◌, List, length, All, None, slice_range, slice_index_or}
use Rattle.tx_recording.specs.declared.recording.RecordedOutcome.TheVariants.{Fail}
use Rattle.tx_recording.specs.declared.recording.Span.{Span}
use Rattle.tx_recording.specs.declared.recording.Act.{Act}
use Rattle.tx_recording.specs.declared.recording.Act.TheVariants.{Append, Write, Read}
use Rattle.tx_recording.specs.declared.recording.RecordedOp.{RecordedOp}
use Rattle.tx_recording.specs.declared.recording.RecordedTransaction.{RecordedTransaction}
use Rattle.tx_recording.specs.declared.recording.Recording.{Recording}

-- its operations lie among so many
abbrev pub IsTransactionOf : ℕ → RecordedTransaction → Type 0
IsTransactionOf ops t = (t.first ≤ t.upto) × (t.upto ≤ ops)

-- the value has its number, or the values that were read are there
abbrev pub IsActOf : Recording → Act → Type 0
IsActOf r (Append v) = v < r.values
IsActOf r (Write v) = v < r.values
IsActOf r (Read span) = span.first + span.count ≤ length r.elements.items

abbrev pub IsOpOf : Recording → RecordedOp → Type 0
IsOpOf r o = (o.key < r.keys) × IsActOf r o.act

-- what stands in it is there
pub record IsRecording (r : Recording) : Type 0 where
  pub few : length r.transactions.items < 2 ^ 30
  pub short : length r.ops.items < 2 ^ 32
  pub transactions : All (IsTransactionOf (length r.ops.items)) r.transactions.items
  pub ops : All (IsOpOf r) r.ops.items
  pub elements : All (λ v. v < r.values) r.elements.items

-- a transaction that did nothing, and did not commit: past the last there are such
abbrev pub no_transaction : RecordedTransaction
no_transaction = record { id = 0; outcome = Fail; process = None; began = None; ended = None; first = 0; upto = 0 }

abbrev pub no_op : RecordedOp
no_op = record { key = 0; act = Append 0 }

abbrev pub txns_of : Recording → ℕ
txns_of r = length r.transactions.items

abbrev pub transaction_at : Recording → ℕ → RecordedTransaction
transaction_at r t = slice_index_or r.transactions.items t no_transaction

-- the operations of a transaction
abbrev pub ops_of : Recording → ℕ → List RecordedOp
ops_of r t = slice_range r.ops.items (transaction_at r t).first (transaction_at r t).upto

-- the values that were read
abbrev pub list_of : Recording → Span → List ℕ
list_of r span = slice_range r.elements.items span.first (span.first + span.count)
