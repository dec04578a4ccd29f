-- The bytes of lock records and write records. Numbers stand with the highest byte first.
use Rattle.std.specs.Prelude.{ℕ, ◌^◌, ◌<◌, ◌≤◌, Bool, true, false, List, [], ◌∷◌, ◌++◌, length}
use Rattle.std.specs.List.{flat_map, AllByRecursion}
use Rattle.std.specs.Int.{w16, w32, w64, to_be_bytes}
use Rattle.tx_types.specs.Kinds.{stored_kind}
use Rattle.tx_types.specs.Locks.{mode_of}
use Rattle.tx_types.specs.declared.limits.TheConstants.{MAX_INLINE_BYTES, MAX_SECONDARIES}
use Rattle.tx_types.specs.declared.key.Key.{Key}
use Rattle.tx_types.specs.declared.value.StoredValue.TheVariants.{Inline, InDefault}
use Rattle.tx_types.specs.declared.mutation.LockKind.{LockKind}
use Rattle.tx_types.specs.declared.mutation.LockKind.TheVariants as kind
use Rattle.tx_types.specs.declared.mutation.Mode.{Mode}
use Rattle.tx_types.specs.declared.mutation.Mode.TheVariants as mode
use Rattle.tx_types.specs.declared.mutation.StoredMutation.{StoredMutation}
use Rattle.tx_types.specs.declared.mutation.StoredMutation.TheVariants.{Put, Delete, Lock}
use Rattle.tx_types.specs.declared.lock.LockMode.{LockMode}
use Rattle.tx_types.specs.declared.lock.LockMode.TheVariants.{TwoPhase, Async}
use Rattle.tx_types.specs.declared.lock.LockRec.{LockRec}
use Rattle.tx_types.specs.declared.write.CommitRec.{CommitRec}
use Rattle.tx_types.specs.declared.write.WriteRec.{WriteRec}
use Rattle.tx_types.specs.declared.write.WriteRec.TheVariants.{Commit, Rollback}
use Rattle.tx_types.specs.Lengths.{IsKey}

-- the byte of a mutation's kind
abbrev pub kind_byte : LockKind → ℕ
kind_byte kind.Put = 0x50
kind_byte kind.Delete = 0x44
kind_byte kind.Lock = 0x4c

-- the byte of the way in which a transaction commits
abbrev pub mode_byte : Mode → ℕ
mode_byte mode.TwoPhase = 0
mode_byte mode.Async = 1

-- whether the transaction that started at a write record's own timestamp was rolled back
abbrev pub mark_byte : Bool → ℕ
mark_byte false = 0
mark_byte true = 1

-- two bytes of length, and the key
abbrev pub key_bytes : List ℕ → List ℕ
key_bytes key = to_be_bytes w16 (length key) ++ key

-- two bytes with the number of the keys, and they
abbrev pub keys_bytes : List Key → List ℕ
keys_bytes keys = to_be_bytes w16 (length keys) ++ flat_map key_bytes keys

-- the other keys that an async lock lists
abbrev pub others_bytes : LockMode → List ℕ
others_bytes TwoPhase = []
others_bytes (Async others) = keys_bytes others

-- what a put keeps of its value: 1, one byte of length and the value, or 0 where the value
-- stands elsewhere
abbrev pub value_bytes : StoredMutation → List ℕ
value_bytes (Put (Inline value)) = 1 ∷ length value ∷ value
value_bytes (Put InDefault) = 0 ∷ []
value_bytes Delete = []
value_bytes Lock = []

-- a lock record
abbrev pub lock_bytes : LockRec → List ℕ
lock_bytes lock =
    kind_byte (stored_kind lock.mutation) ∷ mode_byte (mode_of lock.mode) ∷ to_be_bytes w64 lock.start
    ++ to_be_bytes w64 lock.min ++ to_be_bytes w32 lock.ttl
    ++ key_bytes lock.primary ++ others_bytes lock.mode ++ value_bytes lock.mutation

-- the write record of a commit
abbrev pub commit_bytes : CommitRec → List ℕ
commit_bytes rec = kind_byte (stored_kind rec.mutation) ∷ mark_byte rec.overlapped_rollback ∷ to_be_bytes w64 rec.start
    ++ value_bytes rec.mutation

-- a write record
abbrev pub write_bytes : WriteRec → List ℕ
write_bytes (Commit rec) = commit_bytes rec
write_bytes (Rollback start) = 0x52 ∷ 0 ∷ to_be_bytes w64 start

-- a value that is kept inline has at most 255 bytes
abbrev pub IsStorable : StoredMutation → Type 0
IsStorable (Put (Inline value)) = length value ≤ MAX_INLINE_BYTES
IsStorable (Put InDefault) = Unit {0}
IsStorable Delete = Unit {0}
IsStorable Lock = Unit {0}

-- lists of other keys, as a lock may have them
abbrev pub AreOthers : List Key → Type 0
AreOthers others = (length others ≤ MAX_SECONDARIES) × AllByRecursion IsKey others

abbrev pub IsMode : LockMode → Type 0
IsMode TwoPhase = Unit {0}
IsMode (Async others) = AreOthers others

-- what every lock record meets: numbers, values, keys and lists are within the
-- limits of their types
pub record IsLock (lock : LockRec) : Type 0 where
  pub start : lock.start < 2 ^ 64
  pub min : lock.min < 2 ^ 64
  pub ttl : lock.ttl < 2 ^ 32
  pub primary : IsKey lock.primary
  pub mode : IsMode lock.mode
  pub mutation : IsStorable lock.mutation

-- the same of a write record
pub record IsCommit (rec : CommitRec) : Type 0 where
  pub start : rec.start < 2 ^ 64
  pub mutation : IsStorable rec.mutation

abbrev pub IsWrite : WriteRec → Type 0
IsWrite (Commit rec) = IsCommit rec
IsWrite (Rollback start) = start < 2 ^ 64
