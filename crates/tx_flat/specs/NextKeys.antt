-- The keys of which something is held, one after the other. Only this crate's own clauses cite it.
use Rattle.std.specs.Prelude.{◌≢◌, ◌⊎◌, ℕ, Bool, cond, Option, Some, None, IsTrue}
use Rattle.tx_types.specs.declared.key.Key.{Key}
use Rattle.tx_types.specs.Keys.{key_lt, key_le}
use Rattle.tx_cells.specs.Contents.{OnKey}

-- a lock or a write record is held
abbrev pub IsHeld : OnKey → Type 0
IsHeld x = (x.lock ≢ None) ⊎ ((q : ℕ) × (x.write q ≢ None))

-- k is the first key that passes the test and is among these
pub record IsFirst (passes : Key → Bool) (IsAmong : Key → Type 0) (k : Key) : Type 0 where
  pub passed : IsTrue (passes k)
  pub among : IsAmong k
  pub least : (j : Key) → IsTrue (passes j) → IsAmong j → IsTrue (key_le k j)

-- the first of them, where one passes
abbrev pub FirstOf : (Key → Bool) → (Key → Type 0) → Option Key → Type 0
FirstOf passes IsAmong None = (j : Key) → IsTrue (passes j) → IsAmong j → ⊥
FirstOf passes IsAmong (Some k) = IsFirst passes IsAmong k

-- the lesser of two keys, or the one that is there
abbrev pub lesser_of : Option Key → Option Key → Option Key
lesser_of None b = b
lesser_of (Some a) None = Some a
lesser_of (Some a) (Some b) = cond (key_lt b a) (Some b) (Some a)
