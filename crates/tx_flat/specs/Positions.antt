-- Where a walk over flat maps stands: which of their locks and write records are still to come.
-- Only this crate's own clauses cite it.
use Rattle.std.specs.Prelude.{◌≡◌, ℕ, Bool, true, false, cond, List, [], ◌∷◌, Option, None, Some}
use Rattle.std.specs.List.{filter}
use Rattle.std.specs.List.Sorted.{IsStrictlySortedBy}
use Rattle.std.specs.Map.{keys_of}
use Rattle.std.specs.Map.Iter.{deref_pair}
use Rattle.std.specs.Ordering.{nat_cmp, is_eq}
use Rattle.std.specs.Cmp.Lexicographic.{slice_cmp}
use denote.Ref.{Bor}
use Rattle.tx_types.specs.declared.key.Key.{Key}
use Rattle.tx_types.specs.declared.lock.LockRec.{LockRec}
use Rattle.tx_types.specs.declared.write.WriteRec.{WriteRec}
use Rattle.tx_types.specs.Keys.{key_lt, key_le}
use Rattle.tx_plan.specs.declared.view.ReadView.{ReadView}
use Rattle.tx_plan.specs.Views.{ShowsRead}
use Rattle.tx_cells.specs.Contents.{cells_of}
use Rattle.tx_flat.specs.NextKeys.{IsHeld, FirstOf, lesser_of}
use Rattle.tx_spelling.specs.Spelt.{version_cmp}
use Rattle.tx_flat.specs.Flats.{flat_content, fronts_of}
use Rattle.tx_flat.specs.declared.FlatCells.{FlatCells}

abbrev pub Locks : Type 0
Locks = List (Key × LockRec)

abbrev pub WriteEntries : Type 0
WriteEntries = List ((List ℕ × ℕ) × WriteRec)

-- entries of which the first is at hand; where none is, nothing is to come
abbrev pub coming : {K X : Type 0} → Option (Bor K × Bor X) → List (K × X) → List (K × X)
coming None es = []
coming (Some e) es = deref_pair e ∷ es

-- those of the keys that pass the test
abbrev pub locks_where : (Key → Bool) → Locks → Locks
locks_where passes es = filter (λ e. passes e.0) es

abbrev pub writes_where : (Key → Bool) → WriteEntries → WriteEntries
writes_where passes es = filter (λ e. passes e.0.0) es

abbrev pub first_of : List Key → Option Key
first_of [] = None
first_of (k ∷ ks) = Some k

-- the next key of which something is to come
abbrev pub next_key : Locks → WriteEntries → Option Key
next_key locks writes = lesser_of (first_of (keys_of locks)) (first_of (fronts_of writes))

-- whether a key comes before another, or there is no other
abbrev pub comes_before : Key → Option Key → Bool
comes_before k None = true
comes_before k (Some j) = key_lt k j

-- the lock on a key, where that is the first of these, and those behind it
abbrev pub lock_on : Key → Locks → Option LockRec
lock_on k [] = None
lock_on k (e ∷ es) = cond (is_eq (slice_cmp nat_cmp e.0 k)) (Some e.1) None

abbrev pub locks_behind : Key → Locks → Locks
locks_behind k [] = []
locks_behind k (e ∷ es) = cond (is_eq (slice_cmp nat_cmp e.0 k)) es (e ∷ es)

-- whether a key is the next one or comes after it
abbrev pub is_to_come : Option Key → Key → Bool
is_to_come None k = false
is_to_come (Some next) k = key_le next k

-- the maps are in order, and of the next key and those after it everything is to come
pub record IsPosition (flat : FlatCells) (locks : Locks) (writes : WriteEntries) : Type 0 where
  pub locks_rise : IsStrictlySortedBy (slice_cmp nat_cmp) (keys_of flat.locks.entries)
  pub writes_rise : IsStrictlySortedBy version_cmp (keys_of flat.writes.entries)
  pub locks_left : locks ≡ locks_where (is_to_come (next_key locks writes)) flat.locks.entries
  pub writes_left : writes ≡ writes_where (is_to_come (next_key locks writes)) flat.writes.entries

-- a read at a timestamp sees this of a key, and the walk goes on with the next
pub record Passes (flat : FlatCells) (at : ℕ) (key : Key) (view : ReadView) (locks : Locks)
    (writes : WriteEntries) : Type 0 where
  pub shows : ShowsRead (cells_of (flat_content flat key)) at view
  pub next : FirstOf (key_lt key) (λ j. IsHeld (flat_content flat j)) (next_key locks writes)
