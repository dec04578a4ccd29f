-- What changed of keys.
use Rattle.std.specs.Prelude.{◌≡◌, ◌≢◌, ◌<◌, ◌⊎◌, ℕ, List, [], ◌∷◌, length, slice_set, slice_index_or, All, AllPairs, Any, Contains, Option, Some, None}
use Rattle.tx_cells.specs.declared.copies.KeyVersions.{KeyVersions}
use Rattle.tx_sheet.specs.declared.row.Change.{Change}
use Rattle.tx_sheet.specs.declared.key_state.SeenRecord.{SeenRecord}
use Rattle.tx_film.specs.declared.frame.KeyShown.{KeyShown}
use Rattle.tx_sheet.specs.Seen.{lock_in, records_in, AreAlike}

-- the records of a list that are none of others, in their order
abbrev pub AreOthers : List SeenRecord → List SeenRecord → List SeenRecord → Type 0
AreOthers others [] found = found ≡ []
AreOthers others (r ∷ rs) found = (Contains others r × AreOthers others rs found)
    ⊎ ((Contains others r → ⊥) × (rest : List SeenRecord) × (found ≡ r ∷ rest) × AreOthers others rs rest)

-- a change tells what stood on its key and what stands there after: the lock before and the lock
-- now, the records that came and those that went
pub record IsChange (before : Option KeyVersions) (after : KeyVersions) (c : Change) : Type 0 where
  pub old_lock : c.old_lock ≡ lock_in before
  pub lock : c.lock ≡ lock_in (Some after)
  pub came : AreOthers (records_in before) (records_in (Some after)) c.came.items
  pub went : AreOthers (records_in (Some after)) (records_in before) c.went.items

-- it tells that nothing changed
abbrev pub IsQuiet : Change → Type 0
IsQuiet c = AreAlike c.old_lock c.lock × (c.came.items ≡ []) × (c.went.items ≡ [])

-- nothing changed: the lock is shown as before, and the records are the same
abbrev pub IsSame : Option KeyVersions → KeyVersions → Type 0
IsSame before after = AreAlike (lock_in before) (lock_in (Some after))
    × All (Contains (records_in before)) (records_in (Some after))
    × All (Contains (records_in (Some after))) (records_in before)

-- what was shown of each key last, after more was shown
abbrev pub noted : List (Option KeyVersions) → List KeyShown → List (Option KeyVersions)
noted last [] = last
noted last (s ∷ ss) = noted (slice_set last s.key (Some s.shown)) ss

-- what was shown last of the key at a place
abbrev pub last_of : List (Option KeyVersions) → ℕ → Option KeyVersions
last_of last key = slice_index_or last key None

module _ (last : List (Option KeyVersions)) (said : List KeyShown) where
  -- a change is of a key that is shown, and of which something is said: what that changes
  pub record IsTold (c : Change) : Type 0 where
    pub shown : KeyShown
    pub among : Contains said shown
    pub key : shown.key ≡ c.key
    pub within : c.key < length last
    pub is : IsChange (last_of last c.key) shown.shown c
    pub some : IsQuiet c → ⊥

  -- changes are of what is said of keys: of each of these keys that changed, once
  pub record ChangesOf (these : List KeyShown) (changes : List Change) : Type 0 where
    pub told : All IsTold changes
    pub all : All (λ s. s.key < length last
        → IsSame (last_of last s.key) s.shown ⊎ Any (λ c. c.key ≡ s.key) changes) these
    pub once : AllPairs (λ a b. a.key ≢ b.key) changes
