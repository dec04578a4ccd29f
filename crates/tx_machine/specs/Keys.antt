-- Write sets by key, and the keys that a scan covers.
use Rattle.std.specs.Prelude.{◌≡◌, Bool, true, false, cond, List, [], ◌∷◌, Option, Some, None, bytes_eq}
use Rattle.tx_types.specs.declared.key.Key.{Key}
use Rattle.tx_types.specs.declared.mutation.Change.{Change}
use Rattle.tx_types.specs.declared.mutation.Mutation.{Mutation}
use Rattle.tx_types.specs.declared.mutation.Mutation.TheVariants.{Put, Insert, Delete, Lock}
use Rattle.tx_types.specs.Keys.{is_scanned}
use Rattle.tx_machine.specs.declared.step.ScanRead.{ScanRead}

-- what a write set does to a key
abbrev pub mutation_at : List Change → Key → Option Mutation
mutation_at [] k = None
mutation_at (c ∷ cs) k = cond (bytes_eq c.key k) (Some c.mutation) (mutation_at cs k)

-- the keys that a write set inserts, as a test
abbrev pub is_insert : Option Mutation → Bool
is_insert None = false
is_insert (Some (Put v)) = false
is_insert (Some (Insert v)) = true
is_insert (Some Delete) = false
is_insert (Some Lock) = false

abbrev pub inserted : Option (List Change) → Key → Bool
inserted None k = false
inserted (Some set) k = is_insert (mutation_at set k)

-- each key of a write set is there once
abbrev pub IsDistinct : List Change → Type 0
IsDistinct [] = Unit {0}
IsDistinct (c ∷ cs) = (mutation_at cs c.key ≡ None) × IsDistinct cs

-- the keys that a scan covers: its range, or where the limit ended it the part up to the last row
abbrev pub covered : ScanRead → Key → Bool
covered s k = is_scanned s.from s.to s.limit s.rows k
