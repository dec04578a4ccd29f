-- The reads that the machine keeps, and what it keeps of each.
use Rattle.std.specs.Prelude.{◌≡◌, ℕ, ◌≤◌, ◌&&◌, ◌||◌, ◌⊎◌, Bool, true, List, Option, Some, None, false, bytes_eq, Contains, IsTrue}
use Rattle.std.specs.List.{list_any}
use Rattle.std.specs.Cmp.Lexicographic.{slice_cmp}
use Rattle.std.specs.Ordering.{nat_cmp}
use Rattle.std.specs.BTreeMap as tree
use Rattle.tx_types.specs.declared.key.Key.{Key}
use Rattle.tx_types.specs.declared.mutation.KeyValue.{KeyValue}
use Rattle.tx_machine.specs.declared.step.ScanRead.{ScanRead}
use Rattle.tx_machine.specs.declared.reads.Span.{Span}
use Rattle.tx_machine.specs.declared.reads.Reads.{Reads}
use Rattle.tx_types.specs.Keys.{key_lt, key_le}

-- the keys of a span
abbrev pub span_covers : Span → Key → Bool
span_covers span k = key_le span.from k && (key_lt k span.to || (span.is_closed && bytes_eq k span.to))

-- one key alone
abbrev pub key_test : Key → Key → Bool
key_test k = bytes_eq k

-- a read of k at r is kept: alone or in a span
abbrev pub KeptAt : (Key → Option ℕ) → (ℕ → Option (List Span)) → Key → ℕ → Type 0
KeptAt points spans k r = (points k ≡ Some r) ⊎ ((xs : List Span) × (spans r ≡ Some xs)
    × (list_any (λ span. span_covers span k) xs ≡ true))

abbrev pub IsNoted : Reads → Key → ℕ → Type 0
IsNoted reads k r = KeptAt (tree.get (slice_cmp nat_cmp) reads.points) (tree.get nat_cmp reads.spans) k r

-- a read at r of the keys that pass the test is kept beside those before: of each key the greatest
-- timestamp remains
pub record Grows (old new : Key → ℕ → Type 0) (covers : Key → Bool) (r : ℕ) : Type 0 where
  pub kept : (k : Key) (s : ℕ) → old k s → (u : ℕ) × (s ≤ u) × new k u
  pub added : (k : Key) → IsTrue (covers k) → (u : ℕ) × (r ≤ u) × new k u
  pub only : (k : Key) (s : ℕ) → new k s → old k s ⊎ (IsTrue (covers k) × (s ≡ r))

abbrev pub AddsRead : Reads → Reads → (Key → Bool) → ℕ → Type 0
AddsRead old new covers r = Grows (IsNoted old) (IsNoted new) covers r

-- the same reads are kept
pub record SameReads (old new : Reads) : Type 0 where
  pub kept : (k : Key) (s : ℕ) → IsNoted old k s → IsNoted new k s
  pub only : (k : Key) (s : ℕ) → IsNoted new k s → IsNoted old k s

-- the keys of a span that may be none
abbrev pub covers_of : Option Span → Key → Bool
covers_of None k = false
covers_of (Some span) k = span_covers span k

-- each row of a scan lies below its end
abbrev pub EndsWithin : ScanRead → Type 0
EndsWithin s = (row : KeyValue) → Contains s.rows row → IsTrue (key_lt row.key s.to)
