-- When the cells of a key were changed last, by the number of the request.
use Rattle.std.specs.Prelude.{◌≡◌, ◌≢◌, ◌⊎◌, ℕ, ◌+◌, ◌<◌, ◌≤◌, ◌==◌, cond, [], ◌∷◌}
use Rattle.tx_types.specs.declared.key.Key.{Key}
use Rattle.tx_plan.specs.declared.body.Body.{Body}
use Rattle.tx_plan.specs.declared.body.Body.TheVariants.{Get, Scan, RaiseSafe, LocksBelow, Collect}
use Rattle.tx_plan.specs.Cells.{Cells}
use Rattle.tx_core.specs.declared.event.Event.TheVariants.{Took}
use Rattle.tx_core.specs.Histories.{History, left, Begins}

-- Requests that may change one key are counted. A collection is not: no copy that was made before
-- it is good after it.
abbrev pub turn_of : Body → ℕ
turn_of (Get b) = 0
turn_of (Scan b) = 0
turn_of (RaiseSafe b) = 0
turn_of (LocksBelow b) = 0
turn_of (Collect b) = 0
turn_of _ = 1

-- how many of them a region took
abbrev pub turns : History → ℕ → ℕ
turns [] n = 0
turns (Took x ∷ h) n = cond (x.region == n) (turns h n + turn_of x.body) (turns h n)
turns (_ ∷ h) n = turns h n

-- The number s is noted of a key. It tells of each earlier moment with the same collection whether
-- the key had the cells that it has now: exactly where the region had taken s requests by then.
pub record IsNoted (h : History) (n : ℕ) (k : Key) (s : ℕ) : Type 0 where
  pub low : s ≤ turns h n
  pub same : (l : History) → Begins l h → (left l n).collected ≡ (left h n).collected → s ≤ turns l n
      → (left l n).cells k ≡ (left h n).cells k
  pub changed : (l : History) → Begins l h → (left l n).collected ≡ (left h n).collected → turns l n < s
      → (left l n).cells k ≢ (left h n).cells k

-- A key has the cells that it had, and its number; or it has others, and a number above all that
-- were given out.
abbrev pub Notes : ℕ → ℕ → Cells → ℕ → Cells → ℕ → Type 0
Notes past now before s after t = ((before ≡ after) × (s ≡ t)) ⊎ ((before ≢ after) × (t ≡ now) × (past < now))

-- each key does
abbrev pub NotesAll : ℕ → ℕ → (Key → Cells) → (Key → ℕ) → (Key → Cells) → (Key → ℕ) → Type 0
NotesAll past now before s after t = (k : Key) → Notes past now (before k) (s k) (after k) (t k)

-- some key has other cells, and no number is greater than it was
abbrev pub Drops : (Key → Cells) → (Key → ℕ) → (Key → Cells) → (Key → ℕ) → Type 0
Drops before s after t = (((k : Key) → before k ≡ after k) → ⊥) × ((k : Key) → t k ≤ s k)
