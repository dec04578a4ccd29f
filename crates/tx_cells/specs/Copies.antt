-- What is shown of a key, by its cells.
use Rattle.std.specs.Prelude.{◌≡◌, ◌⊎◌, ◌↔◌, ℕ, ◌<◌, true, List, [], ◌∷◌, ◌++◌, Some, Contains, option_map}
use Rattle.tx_types.specs.declared.value.Value.{Value}
use Rattle.tx_plan.specs.declared.view.RecordHead.{RecordHead}
use Rattle.tx_plan.specs.Cells.{Lock, Cells, is_long}
use Rattle.tx_plan.specs.Own.{OwnLock, OwnCommit}
use Rattle.tx_plan.specs.Views.{head_of, lock_head_of}
use Rattle.tx_cells.specs.declared.copies.RecordAt.{RecordAt}
use Rattle.tx_cells.specs.declared.copies.KeyVersions.{KeyVersions}

-- timestamps fall
abbrev pub AreFalling : List ℕ → Type 0
AreFalling [] = Unit {0}
AreFalling (x ∷ []) = Unit {0}
AreFalling (x ∷ y ∷ times) = (y < x) × AreFalling (y ∷ times)

abbrev pub times_of : List RecordAt → List ℕ
times_of [] = []
times_of (x ∷ xs) = x.at ∷ times_of xs

-- the lock or a commit record of the transaction that started at t puts a long value, which
-- families keep apart
abbrev pub HasLongValue : Cells → ℕ → Type 0
HasLongValue cells t = ((lock : Lock) × OwnLock cells.lock t lock × (is_long lock.mutation ≡ true))
    ⊎ ((c : ℕ) × (own : OwnCommit cells.write t c) × (is_long own.rec.mutation ≡ true))

-- It shows the head of the lock, the write records from the newest on, and the starts of the
-- transactions whose values are kept apart, from the newest on: of those that have a long value,
-- whichever record puts it.
pub record Copies (cells : Cells) (copy : KeyVersions) : Type 0 where
  pub lock : copy.lock ≡ option_map lock_head_of cells.lock
  pub records_fall : AreFalling (times_of copy.records)
  pub records : (at : ℕ) (head : RecordHead) → Contains copy.records (record { at = at; head = head })
      ↔ (option_map head_of (cells.write at) ≡ Some head)
  pub values_fall : AreFalling copy.values
  pub values : (t : ℕ) → Contains copy.values t ↔ ∥ HasLongValue cells t ∥₁

-- ---- entries in the order of their timestamps, shown from the newest on

abbrev pub starts_down : List (ℕ × Value) → List ℕ
starts_down [] = []
starts_down (e ∷ es) = starts_down es ++ e.0 ∷ []
