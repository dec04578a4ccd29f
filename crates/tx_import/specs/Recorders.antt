-- What a recorder got wrong, and what is left of a recording without those whose writes came to
-- nothing.
use Rattle.std.specs.Prelude.{◌≡◌, ◌⊎◌, ℕ, ◌+◌, ◌&&◌, ◌<◌, ◌≤◌, Bool, true, false, not, List, length, nat_le, Contains, Some, slice_index_or}
use Rattle.tx_recording.specs.declared.recording.Act.{Act}
use Rattle.tx_recording.specs.declared.recording.Act.TheVariants.{Append, Write, Read}
use Rattle.tx_recording.specs.declared.recording.RecordedOutcome.TheVariants.{Fail}
use Rattle.tx_recording.specs.declared.recording.RecordedOp.{RecordedOp}
use Rattle.tx_recording.specs.declared.recording.RecordedTransaction.{RecordedTransaction}
use Rattle.tx_recording.specs.declared.recording.Recording.{Recording}
use Rattle.tx_recording.specs.Recordings.{txns_of, transaction_at, no_transaction, ops_of}
use Rattle.tx_recording.specs.Explanations.{Puts, op_at}
use Rattle.tx_import.specs.declared.reader.NamedHistory.{NamedHistory}
use Rattle.tx_import.specs.declared.recorder.Misrecorded.{Misrecorded}
use Rattle.tx_import.specs.declared.recorder.Misrecorded.TheVariants.{Empty, EndsEarly, SameId, Mixed}

-- it ended before it began
abbrev pub IsBackward : Recording → ℕ → Type 0
IsBackward r t = (b : ℕ) × (e : ℕ) × (e < b) × ((transaction_at r t).began ≡ Some b)
    × ((transaction_at r t).ended ≡ Some e)

-- one before the other has its id
abbrev pub HaveOneId : Recording → ℕ → ℕ → Type 0
HaveOneId r t u = (t < u) × (u < txns_of r) × ((transaction_at r t).id ≡ (transaction_at r u).id)

-- an act on a list: an append, or a read that is told to be of one
abbrev pub is_of_list : Act → Bool → Bool
is_of_list (Append v) told = true
is_of_list (Write v) told = false
is_of_list (Read span) told = told

-- an act on a register: a write, or a read of a value that is not told to be of a list
abbrev pub is_of_register : Act → Bool → Bool
is_of_register (Append v) told = false
is_of_register (Write v) told = true
is_of_register (Read span) told = not told && nat_le 1 span.count

-- the one, or else the other
abbrev pub is_one_as : Bool → Act → Bool → Bool
is_one_as true a told = is_of_list a told
is_one_as false a told = is_of_register a told

-- whether the operation of t at p is told to be a read of a list
abbrev pub told_at : NamedHistory → ℕ → ℕ → Bool
told_at h t p = slice_index_or h.tables.lists.items ((transaction_at h.recording t).first + p) false

-- t has an operation on the key as a list, or else as a register
abbrev pub HasKeyAs : NamedHistory → ℕ → ℕ → Bool → Type 0
HasKeyAs h t k list = (p : ℕ) × (p < length (ops_of h.recording t)) × ((op_at h.recording t p).key ≡ k)
    × (is_one_as list (op_at h.recording t p).act (told_at h t p) ≡ true)

-- there is no transaction; one ended before it began; two have one id; the one has a key as a list,
-- and the other as a register
abbrev pub IsMisrecorded : NamedHistory → Misrecorded → Type 0
IsMisrecorded h Empty = txns_of h.recording ≡ 0
IsMisrecorded h (EndsEarly t) = (t < txns_of h.recording) × IsBackward h.recording t
IsMisrecorded h (SameId t u) = HaveOneId h.recording t u
IsMisrecorded h (Mixed k t u) = (t < txns_of h.recording) × (u < txns_of h.recording) × HasKeyAs h t k true
    × HasKeyAs h u k false

-- there is a transaction, and none ended before it began
abbrev pub IsTimely : Recording → Type 0
IsTimely r = (1 ≤ txns_of r) × ((t : ℕ) → t < txns_of r → IsBackward r t → ⊥)

-- it failed, and nobody read a value of it
abbrev pub IsUnread : Recording → ℕ → Type 0
IsUnread r t = ((transaction_at r t).outcome ≡ Fail)
    × ((o : RecordedOp) (v : ℕ) → Contains (ops_of r t) o → Puts o.act v → Contains r.elements.items v → ⊥)

-- the same without operations
abbrev pub emptied : RecordedTransaction → RecordedTransaction
emptied t = record {
  id = t.id;
  outcome = t.outcome;
  process = t.process;
  began = t.began;
  ended = t.ended;
  first = t.first;
  upto = t.first;
}

-- the first so many are the same, but that some of those that failed and of whom nobody read a
-- value have no operations
abbrev pub AreBare : Recording → List RecordedTransaction → ℕ → Type 0
AreBare r ts n = (length ts ≡ n) × ((t : ℕ) → t < n → (slice_index_or ts t no_transaction ≡ transaction_at r t)
    ⊎ (IsUnread r t × (slice_index_or ts t no_transaction ≡ emptied (transaction_at r t))))

-- of each value that was read it is marked that it was
abbrev pub AreMarked : List ℕ → List Bool → Type 0
AreMarked elements read = (v : ℕ) → Contains elements v → slice_index_or read v false ≡ true

-- the same recording, but for such transactions
pub record IsBare (r b : Recording) : Type 0 where
  pub ops : b.ops ≡ r.ops
  pub elements : b.elements ≡ r.elements
  pub keys : b.keys ≡ r.keys
  pub values : b.values ≡ r.values
  pub transactions : AreBare r b.transactions.items (txns_of r)

-- the same names
abbrev pub IsBareOf : NamedHistory → NamedHistory → Type 0
IsBareOf h b = (b.tables ≡ h.tables) × IsBare h.recording b.recording
