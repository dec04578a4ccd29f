-- Keys in order, ranges of keys, rows by key, and which changes of a key reads see.
use Rattle.std.specs.Prelude.{◌&&◌, ◌||◌, ℕ, Bool, true, false, cond, List, [], ◌∷◌, length, Option, Some, None, bytes_eq, nat_lt, IsTrue}
use Rattle.std.specs.Cmp.Lexicographic.{slice_cmp}
use Rattle.std.specs.Ordering.{nat_cmp, is_le, is_lt}
use Rattle.tx_types.specs.declared.key.Key.{Key}
use Rattle.tx_types.specs.declared.value.Value.{Value}
use Rattle.tx_types.specs.declared.mutation.KeyValue.{KeyValue}
use Rattle.tx_types.specs.declared.mutation.Mutation.{Mutation}
use Rattle.tx_types.specs.declared.mutation.Mutation.TheVariants.{Put, Insert, Delete, Lock}
use Rattle.tx_types.specs.Kinds.{IsSeenKind, kind_of}

-- keys are ordered as their bytes are
abbrev pub key_lt : Key → Key → Bool
key_lt j k = is_lt (slice_cmp nat_cmp j k)

abbrev pub key_le : Key → Key → Bool
key_le j k = is_le (slice_cmp nat_cmp j k)

-- the keys from one up to but not including another
abbrev pub is_between : Key → Key → Key → Bool
is_between from to k = key_le from k && key_lt k to

-- the keys of these rise: each lies above the one before it
abbrev pub KeysRise : {A : Type 0} → (A → Key) → List A → Type 0
KeysRise key [] = Unit {0}
KeysRise key (x ∷ []) = Unit {0}
KeysRise key (x ∷ y ∷ xs) = IsTrue (key_lt (key x) (key y)) × KeysRise key (y ∷ xs)

-- keys rise
abbrev pub AreRising : List Key → Type 0
AreRising ks = KeysRise (λ (k : Key). k) ks

-- rows are in the order of their keys
abbrev pub IsRising : List KeyValue → Type 0
IsRising rows = KeysRise (λ (row : KeyValue). row.key) rows

-- the value that rows give a key
abbrev pub value_in : List KeyValue → Key → Option Value
value_in [] k = None
value_in (x ∷ xs) k = cond (bytes_eq x.key k) (Some x.value) (value_in xs k)

-- there is a row at this key or above
abbrev pub reaches : List KeyValue → Key → Bool
reaches [] k = false
reaches (x ∷ xs) k = key_le k x.key || reaches xs k

-- the keys that a scan from one key up to another covers: its range, or where the limit ended it
-- the part up to the last row
abbrev pub is_scanned : Key → Key → ℕ → List KeyValue → Key → Bool
is_scanned from to limit rows k = is_between from to k && (nat_lt (length rows) limit || reaches rows k)

-- reads see puts, inserts and deletes, and no locks
abbrev pub IsVisible : Mutation → Type 0
IsVisible m = IsSeenKind (kind_of m)

-- the same, as a test
abbrev pub is_visible : Mutation → Bool
is_visible (Put v) = true
is_visible (Insert v) = true
is_visible Delete = true
is_visible Lock = false

-- the value that a mutation leaves on its key, if it leaves one
abbrev pub put_by : Mutation → Option Value
put_by (Put v) = Some v
put_by (Insert v) = Some v
put_by Delete = None
put_by Lock = None

-- it asks that its key have no value
abbrev pub IsInsert : Mutation → Type 0
IsInsert (Put v) = ⊥
IsInsert (Insert v) = Unit {0}
IsInsert Delete = ⊥
IsInsert Lock = ⊥
