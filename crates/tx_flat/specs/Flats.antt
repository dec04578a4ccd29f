-- What flat maps of encoded bytes hold of each key.
use Rattle.std.specs.Prelude.{ℕ, cond, List, [], ◌∷◌, ◌++◌, map, Option, None, Some, bytes_eq}
use Rattle.std.specs.List.{filter}
use Rattle.std.specs.Map.{keys_of}
use Rattle.tx_types.specs.Keys.{key_lt}
use Rattle.std.specs.Ordering.{nat_cmp}
use Rattle.std.specs.Cmp.Lexicographic.{slice_cmp}
use Rattle.std.specs.BTreeMap as tree
use Rattle.tx_types.specs.declared.key.Key.{Key}
use Rattle.tx_spelling.specs.Spelt.{version_cmp}
use Rattle.tx_types.specs.declared.lock.LockRec.{LockRec}
use Rattle.tx_plan.specs.Walks.{LockRow, KeyRow}
use Rattle.tx_cells.specs.Contents.{Content, cells_of, lock_of}
use Rattle.tx_flat.specs.declared.FlatCells.{FlatCells}

abbrev pub flat_content : FlatCells → Content
flat_content flat key = record {
  lock = tree.get (slice_cmp nat_cmp) flat.locks key;
  write = λ c. tree.get version_cmp flat.writes (key, c);
  value = λ t. tree.get version_cmp flat.values (key, t);
}

-- locks of these keys as rows of a walk
abbrev pub lock_rows_in : Content → List (Key × LockRec) → List LockRow
lock_rows_in content [] = []
lock_rows_in content (e ∷ es) = (record { key = e.0; lock = lock_of (content e.0).value e.1 }) ∷ lock_rows_in content es

-- ---- the keys of which a lock or a write record is held

-- a key, in its place among keys in order
abbrev pub put_key : Key → List Key → List Key
put_key k [] = k ∷ []
put_key k (x ∷ xs) = cond (key_lt k x) (k ∷ x ∷ xs) (cond (bytes_eq x k) (x ∷ xs) (x ∷ put_key k xs))

-- keys, each once and in order
abbrev pub in_order : List Key → List Key
in_order [] = []
in_order (k ∷ ks) = put_key k (in_order ks)

abbrev pub fronts_of : {X : Type 0} → List ((List ℕ × ℕ) × X) → List Key
fronts_of es = map (λ e. e.0.0) es

abbrev pub held_keys : FlatCells → List Key
held_keys flat = in_order (keys_of flat.locks.entries ++ fronts_of flat.writes.entries)

-- what is on these keys, as the rows of a walk
abbrev pub rows_on : Content → List Key → List KeyRow
rows_on content [] = []
rows_on content (k ∷ ks) = (record { key = k; cells = cells_of (content k) }) ∷ rows_on content ks

-- the rows from a key on, whether something is held of it or not
abbrev pub rows_from : FlatCells → Option Key → List KeyRow
rows_from flat None = []
rows_from flat (Some k) = rows_on (flat_content flat) (k ∷ filter (key_lt k) (held_keys flat))
