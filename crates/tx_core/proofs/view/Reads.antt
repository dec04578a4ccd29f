-- The reads of the case tables: what a region gives that no lock stopped is a read of a view
-- that meets no lock.
use Rattle.std.proofs.Common.{◌≡◌, ◌≢◌, ℕ, ◌<◌, ◌≤◌, ◌⊎◌, ◌||◌, nat_lt, zero, suc, inl, inr, Bool, List, [], ◌∷◌, IsTrue, length, arith}
use Rattle.std.proofs.lemmas.Bool.{cases_lt, and_parts}
use Rattle.tx_types.specs.declared.key.Key.{Key}
use Rattle.tx_plan.specs.Cells.{Lock}
use Rattle.tx_core.proofs.Basics.{nat_test}
use Rattle.tx_core.proofs.view.View.{View}
use Rattle.std.specs.Prelude.{Contains}
use Rattle.std.specs.List.{slice_index_or}
use Rattle.tx_plan.specs.declared.body.Scan.{Scan}
use Rattle.tx_types.specs.declared.mutation.KeyValue.{KeyValue}
use Rattle.tx_machine.specs.declared.step.Step.{Step}
use Rattle.tx_machine.specs.declared.step.Step.TheVariants as step
use Rattle.tx_types.specs.Keys.{reaches}
use Rattle.tx_machine.specs.Keys.{covered}
use Rattle.tx_machine.specs.Machine.{SeesRows, table_of}
use Rattle.tx_plan.specs.Reads as reads
use Rattle.tx_plan.specs.Reads.{Blocks, Walked, in_range}
use Rattle.tx_core.specs.Truth.{scan_read}
use Rattle.tx_core.proofs.changes.Reads.{reading, Passes, Unblocked}
use Rattle.tx_core.proofs.view.Tables.{Sound}
use Rattle.tx_core.proofs.changes.Sounds.{sees_rows, sound_scan}

-- a number is in a list or not
contains_cases : (xs : List ℕ) (n : ℕ) → Contains xs n ⊎ (Contains xs n → ⊥)
contains_cases [] n = inr (λ c. omega (arith, c.1))
contains_cases (x ∷ xs) n =
    elim (nat_test x n) [
      | inl same ↦ inl (zero, omega arith, same.1)
      | inr other ↦ elim (contains_cases xs n) [
        | inl c ↦ inl (suc c.0, omega (arith, c.1), c.2)
        | inr none ↦ inr (λ c. go c.0 c.1 c.2 other.1 none)
      ]
    ]
  where
    go : (k : ℕ) → k < length (x ∷ xs) → slice_index_or (x ∷ xs) k n ≡ n → x ≢ n → (Contains xs n → ⊥) → ⊥
    go zero low at other none = other at
    go (suc k) low at other none = none (k, omega (arith, low), at)

-- where no lock blocks a read and it may pass by each transaction that it names, it meets no lock
pub unblocked : (w : View) (covers : Key → Bool) (r : ℕ) (bypass : List ℕ)
    → ((k : Key) (lock : Lock) → IsTrue (covers k) → Blocks (w.cells k).lock r bypass lock → ⊥)
    → ((t : ℕ) → Contains bypass t → Passes w.decided w.accepted w.shown r t) → Unblocked w covers r
unblocked w covers r bypass free may k lock inside stands v =
    elim (cases_lt r lock.min) [
      | inl below ↦ inl below
      | inr above ↦ elim (contains_cases bypass lock.start) [
        | inl named ↦ inr (may lock.start named)
        | inr met ↦ absurd (free k lock inside (record { stands = stands; visible = v; below = above; met = met }))
      ]
    ]

-- a scan whose walk was free
module _ (steps : List Step) (w : View) (b : Scan) (rows : List KeyValue) (s : Sound steps w) (upto :
    b.at ≤ w.last) (fresh : (k : Key) → IsTrue (in_range b k) → w.collected k ≤ b.at) (here : (k : Key)
    → IsTrue (in_range b k) → b.at ≤ w.floor k) (may : (t : ℕ) → Contains b.bypass t
    → Passes w.decided w.accepted w.shown b.at t) (few : length rows ≤ b.limit) (walked :
    Walked w.cells b.at b.bypass (reads.covered b rows) rows) where
  in_its_range : (k : Key) → IsTrue (covered (scan_read b rows) k) → IsTrue (in_range b k)
  in_its_range k inside = (and_parts (in_range b k) (nat_lt (length rows) b.limit || reaches rows k) inside).0

  meets_none : Unblocked w (covered (scan_read b rows)) b.at
  meets_none = unblocked w (covered (scan_read b rows)) b.at b.bypass walked.free may

  -- its rows are what the machine sees
  pub walked_rows : SeesRows (table_of steps).row (scan_read b rows)
  walked_rows =
      sees_rows steps w (scan_read b rows) s (λ k inside. fresh k (in_its_range k inside)) meets_none walked.rising
      walked.inside few walked.read

  pub sound_walk : Sound (step.Scan (scan_read b rows) ∷ steps) (reading w (covered (scan_read b rows)) b.at)
  sound_walk = sound_scan steps w (scan_read b rows) s upto (λ k inside. here k (in_its_range k inside)) meets_none
      walked_rows
