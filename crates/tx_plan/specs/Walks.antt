-- What a walk over the keys of a region passes.
use Rattle.std.specs.Prelude.{◌≡◌, Bool, true, cond, List, [], ◌∷◌, Option, Some, None, bytes_eq, IsTrue}
use Rattle.tx_types.specs.declared.key.Key.{Key}
use Rattle.tx_types.specs.Keys.{KeysRise}
use Rattle.tx_plan.specs.Cells.{Lock, Cells, no_cells}

-- a key and what is on it
pub record KeyRow : Type 0 where
  pub key : Key
  pub cells : Cells

-- rows stand in the order of their keys, one of each key
abbrev pub AreInOrder : List KeyRow → Type 0
AreInOrder rows = KeysRise (λ (row : KeyRow). row.key) rows

-- the keys of the rows pass the test
abbrev pub KeysPass : (Key → Bool) → List KeyRow → Type 0
KeysPass within [] = Unit {0}
KeysPass within (x ∷ rows) = IsTrue (within x.key) × KeysPass within rows

-- what the rows say is on a key: nothing where none is of it
abbrev pub cells_by : List KeyRow → Key → Cells
cells_by [] k = no_cells
cells_by (x ∷ rows) k = cond (bytes_eq x.key k) x.cells (cells_by rows k)

-- a walk over a part of a region: in the order of the keys, each key of the part on which there is
-- something, and no other
pub record IsWalk (cells : Key → Cells) (within : Key → Bool) (rows : List KeyRow) : Type 0 where
  pub rising : AreInOrder rows
  pub inside : KeysPass within rows
  pub all : (k : Key) → IsTrue (within k) → cells k ≡ cells_by rows k

-- a whole region
abbrev pub every_key : Key → Bool
every_key k = true

-- ---- locks

-- a key and the lock on it
pub record LockRow : Type 0 where
  pub key : Key
  pub lock : Lock

-- these rows stand in the order of their keys, one of each key
abbrev pub LocksInOrder : List LockRow → Type 0
LocksInOrder rows = KeysRise (λ (row : LockRow). row.key) rows

-- the lock that the rows say is on a key
abbrev pub lock_by : List LockRow → Key → Option Lock
lock_by [] k = None
lock_by (x ∷ rows) k = cond (bytes_eq x.key k) (Some x.lock) (lock_by rows k)

-- a walk over the locks of a region: in the order of the keys, each lock, and no other
pub record IsLockWalk (cells : Key → Cells) (rows : List LockRow) : Type 0 where
  pub rising : LocksInOrder rows
  pub all : (k : Key) → (cells k).lock ≡ lock_by rows k
