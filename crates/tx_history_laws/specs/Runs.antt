-- Which runs of the machine a history with versions may come from.
use Rattle.std.specs.Prelude.{◌≡◌, ℕ, ◌+◌, ◌<◌, ◌≤◌, Contains, Option, Some, None, zero, suc}
use Rattle.tx_types.specs.declared.key.Key.{Key}
use Rattle.tx_types.specs.declared.value.Value.{Value}
use Rattle.tx_types.specs.declared.mutation.Mutation.{Mutation}
use Rattle.tx_types.specs.declared.mutation.Mutation.TheVariants.{Put}
use Rattle.tx_types.specs.Keys.{IsVisible}
use Rattle.tx_machine.specs.Machine.{Rows, Commits, Sees}
use Rattle.tx_history.specs.declared.recorded.Read.{Read}
use Rattle.tx_history.specs.declared.recorded.After.{After}
use Rattle.tx_history.specs.Histories.{History, HasVersion}

-- the value of a version, and none before the first
abbrev pub value_at : (ℕ → ℕ → Value) → ℕ → ℕ → Option Value
value_at value k zero = None
value_at value k (suc i) = Some (value k (suc i))

-- The committed rows are those of the history under these timestamps: each version is a put of its
-- own value, nothing else is put or deleted on its keys, what was read is seen at the reader's
-- start, and whoever wrote a version had the one before it there (as an append has, or a read
-- before a write). Each transaction ends above its start, one that wrote nothing at any moment
-- there; and what is known to come after starts there or above.
pub record IsOf (h : History) (rows : Rows) (key : ℕ → Key) (value : ℕ → ℕ → Value)
    (start commit : ℕ → ℕ) : Type 0 where
  pub commits : (k i : ℕ) → HasVersion h k i
      → Commits rows (key k) (start (h.writer k i)) (commit (h.writer k i)) (Put (value k i))
  pub only : (k u c : ℕ) (m : Mutation) → Commits rows (key k) u c m → IsVisible m
      → (i : ℕ) × HasVersion h k i × (c ≡ commit (h.writer k i)) × (m ≡ Put (value k i))
  pub own : (k i j : ℕ) → HasVersion h k i → HasVersion h k j → value k i ≡ value k j → i ≡ j
  pub reads : (r : Read) → Contains h.reads r → Sees rows (key r.key) (start r.txn) (value_at value r.key r.version)
  pub base : (k i : ℕ) → HasVersion h k (i + 1) → Sees rows (key k) (start (h.writer k (i + 1))) (value_at value k i)
  pub ends : (t : ℕ) → t < h.txns → start t < commit t
  pub after : (p : After) → Contains h.after p → commit p.earlier ≤ start p.later
