-- What a region holds: on each key a lock and write records, and three numbers. A record holds its
-- whole value here; which values a store keeps apart is `is_long`.
use Rattle.std.specs.Prelude.{ℕ, ◌==◌, Bool, false, cond, List, Option, Some, None, bytes_eq, length, nat_lt}
use Rattle.tx_types.specs.declared.limits.TheConstants.{MAX_INLINE_BYTES}
use Rattle.tx_types.specs.declared.key.Key.{Key}
use Rattle.tx_types.specs.declared.mutation.Mutation.{Mutation}
use Rattle.tx_types.specs.declared.mutation.Mutation.TheVariants as mutation
use Rattle.tx_types.specs.declared.mutation.Mode.{Mode}
use Rattle.tx_types.specs.declared.lock.LockInfo.{LockInfo}
use Rattle.tx_types.specs.Kinds.{kind_of}

-- the lock of a transaction on a key: what the transaction does to the key (an insert puts, once it
-- is locked), how it commits, the other keys that an async lock of the primary lists, its start,
-- the least timestamp at which it may commit, its time to live and its primary
pub record Lock : Type 0 where
  pub mutation : Mutation
  pub mode : Mode
  pub secondaries : List Key
  pub start : ℕ
  pub min : ℕ
  pub ttl : ℕ
  pub primary : Key

-- that a transaction committed at the record's timestamp: what it did to the key, its start, and
-- whether the transaction that started at the record's own timestamp, another one, was rolled back
-- here and shares the cell
pub record CommitRecord : Type 0 where
  pub mutation : Mutation
  pub start : ℕ
  pub overlapped_rollback : Bool

-- a write record: a commit record, or the rollback of the transaction that started at the
-- record's timestamp
pub data Write : Type 0 where
  CommitOf : (record_of : CommitRecord) → Write
  Rollback : Write

-- the write records of a key, by timestamp
abbrev pub Writes : Type 0
Writes = ℕ → Option Write

-- what stands on a key
pub record Cells : Type 0 where
  pub lock : Option Lock
  pub write : Writes

-- a region: its cells by key, the greatest timestamp that was read in it, its safe point, and the
-- safe point of the last collection
pub record Region : Type 0 where
  pub cells : Key → Cells
  pub max_read : ℕ
  pub safe : ℕ
  pub collected : ℕ

-- a key on which nothing stands, and a region in which nothing happened
abbrev pub no_cells : Cells
no_cells = record { lock = None; write = λ c. None }

abbrev pub new_region : Region
new_region = record { cells = λ k. no_cells; max_read = 0; safe = 0; collected = 0 }

-- whether a mutation puts a value of more than 255 bytes: a store keeps such a value apart, in the
-- `default` family, under the key and the start of its transaction, as long as the lock or the
-- commit record that puts it stands
abbrev pub is_long : Mutation → Bool
is_long (mutation.Put v) = nat_lt MAX_INLINE_BYTES (length v)
is_long (mutation.Insert v) = nat_lt MAX_INLINE_BYTES (length v)
is_long _ = false

-- what is told of a lock that stands on a key
abbrev pub info_of : Key → Lock → LockInfo
info_of k lock = record {
  key = k;
  start = lock.start;
  primary = lock.primary;
  min = lock.min;
  ttl = lock.ttl;
  kind = kind_of lock.mutation;
  mode = lock.mode;
  secondaries = lock.secondaries;
}

-- cells with another lock, or none
abbrev pub with_lock : Cells → Option Lock → Cells
with_lock cells lock = record cells { lock = lock }

-- write records with another one at c
abbrev pub with_write : Writes → ℕ → Write → Writes
with_write write c rec = λ q. cond (c == q) (Some rec) (write q)

-- a region with other cells on one key
abbrev pub with_cells : Region → Key → Cells → Region
with_cells region k cells = record region { cells = λ q. cond (bytes_eq k q) cells (region.cells q) }

-- a region with another greatest timestamp read
abbrev pub with_max_read : Region → ℕ → Region
with_max_read region max_read = record region { max_read = max_read }
