-- What nested maps hold of each key.
use Rattle.std.specs.Prelude.{ℕ, List, [], ◌∷◌, Option, Some, None}
use Rattle.tx_types.specs.declared.key.Key.{Key}
use Rattle.tx_types.specs.declared.lock.LockRec.{LockRec}
use Rattle.tx_plan.specs.Walks.{KeyRow, LockRow}
use Rattle.std.specs.Ordering.{nat_cmp}
use Rattle.std.specs.Cmp.Lexicographic.{slice_cmp}
use Rattle.std.specs.BTreeMap as tree
use Rattle.tx_cells.specs.Contents.{OnKey, Content, nothing_held, cells_of, lock_of}
use Rattle.tx_nested.specs.declared.key.KeyFamilies.{KeyFamilies}
use Rattle.tx_nested.specs.declared.NestedCells.{NestedCells}

abbrev pub held : KeyFamilies → OnKey
held key = record { lock = key.lock; write = tree.get nat_cmp key.writes; value = tree.get nat_cmp key.values }

abbrev pub held_on : Option KeyFamilies → OnKey
held_on None = nothing_held
held_on (Some key) = held key

abbrev pub nested_content : NestedCells → Content
nested_content nested key = held_on (tree.get (slice_cmp nat_cmp) nested.keys key)

-- entries of the map as rows of a walk, and their locks
abbrev pub key_rows : List (Key × KeyFamilies) → List KeyRow
key_rows [] = []
key_rows (e ∷ es) = (record { key = e.0; cells = cells_of (held e.1) }) ∷ key_rows es

-- the row of a lock in front of others, if there is a lock
abbrev pub before_row : Key → KeyFamilies → Option LockRec → List LockRow → List LockRow
before_row key on_key None rows = rows
before_row key on_key (Some rec) rows = (record { key = key; lock = lock_of (held on_key).value rec }) ∷ rows

abbrev pub lock_rows : List (Key × KeyFamilies) → List LockRow
lock_rows [] = []
lock_rows (e ∷ es) = before_row e.0 e.1 e.1.lock (lock_rows es)

-- the number that is noted of each key, 0 of one of which nothing is held
abbrev pub number_on : Option KeyFamilies → ℕ
number_on None = 0
number_on (Some key) = key.number

abbrev pub nested_numbers : NestedCells → Key → ℕ
nested_numbers nested key = number_on (tree.get (slice_cmp nat_cmp) nested.keys key)
