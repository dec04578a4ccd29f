-- What the readers of a record's parts promise. Only this crate's own clauses cite it.
use Rattle.std.specs.Prelude.{◌≡◌, ◌≢◌, ℕ, List, ◌++◌, Result, Ok, Err}
use Rattle.std.specs.Borrow.{Bor}
use Rattle.tx_codec.specs.declared.readers.Unread.{Unread}
use Rattle.tx_codec.specs.declared.readers.Unread.TheVariants.{Malformed, OutOfMemory}

-- Nothing was read: no value of those that `Is` names is spelled at the front of the bytes,
-- or memory ran out.
abbrev pub Fails : {X : Type 0} → (X → Type 0) → (X → List ℕ) → List ℕ → Unread → Type 0
Fails {X} Is spelling bytes Malformed = (x : X) (after : List ℕ) → Is x → bytes ≢ spelling x ++ after
Fails {X} Is spelling bytes OutOfMemory = Unit {0}

-- The value was read: it is spelled at the front of the bytes, these follow, and it
-- is the only one.
pub record Takes {X : Type 0} (Is : X → Type 0) (spelling : X
    → List ℕ) (bytes : List ℕ) (value : X) (rest : List ℕ) : Type 0 where
  pub is : Is value
  pub spelled : bytes ≡ spelling value ++ rest
  pub only : (x : X) (after : List ℕ) → Is x → bytes ≡ spelling x ++ after → (x ≡ value) × (after ≡ rest)

-- what a reader answers of the bytes
abbrev pub ReadsBytes : {X : Type 0} → (X → Type 0) → (X → List ℕ) → List ℕ
    → Result (X × Bor (List ℕ)) Unread → Type 0
ReadsBytes Is spelling bytes (Ok found) = Takes Is spelling bytes found.0 found.1.now
ReadsBytes Is spelling bytes (Err e) = Fails Is spelling bytes e
