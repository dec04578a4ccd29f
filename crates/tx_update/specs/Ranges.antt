-- The rows of a range of keys.
use Rattle.std.specs.Prelude.{◌≡◌, ◌⊎◌, ◌<◌, ◌+◌, ◌&&◌, ℕ, nat_lt, Bool, false, cond, List, [], ◌∷◌, ◌++◌, length, replicate, Option, Some, None, bytes_eq, IsTrue}
use Rattle.tx_types.specs.declared.key.Key.{Key}
use Rattle.tx_types.specs.declared.value.Value.{Value}
use Rattle.tx_types.specs.declared.mutation.Change.{Change}
use Rattle.tx_types.specs.declared.mutation.KeyValue.{KeyValue}
use Rattle.tx_types.specs.declared.mutation.Mutation.{Mutation}
use Rattle.tx_types.specs.declared.mutation.Mutation.TheVariants as mutation
use Rattle.tx_types.specs.Keys.{key_lt, key_le, IsRising, value_in}
use Rattle.tx_update.specs.declared.rows.KeyRange.{KeyRange}

-- the least key is a byte of 0, and the greatest 512 bytes of 255
abbrev pub least : Key
least = 0 ∷ []

unfoldable pub greatest : Key
greatest = replicate 512 255

-- where a range begins: at a key, or at the least
abbrev pub begin_of : Option Key → Key
begin_of None = least
begin_of (Some from) = from

-- a key lies below the end of a range: below a key, or at the greatest or below
abbrev pub is_below : Option Key → Key → Bool
is_below None k = key_le k greatest
is_below (Some to) k = key_lt k to

-- the keys of a range
abbrev pub is_in_range : Option Key → Option Key → Key → Bool
is_in_range from to k = key_le (begin_of from) k && is_below to k

-- a row of a key
abbrev pub row_with : Key → Value → KeyValue
row_with k v = record { key = k; value = v }

-- the same, where it has a value
abbrev pub row_of : Key → Option Value → List KeyValue
row_of k None = []
row_of k (Some v) = row_with k v ∷ []

-- The rows of a page, of so many rows where it is full, before the next page begins: all where it
-- is not full, and the next then begins at the end of the range; else all but the last, at which it
-- begins.
abbrev pub IsSplit : ℕ → List KeyValue → Key → List KeyValue → Key → Type 0
IsSplit limit page end front next = (length page < limit) × (front ≡ page) × (next ≡ end)
    ⊎ ((v : Value) × (page ≡ front ++ row_with next v ∷ []))

-- The least key above all that begin with these bytes: the last of them that is below 255 is one
-- more, and those behind it are left out. There is none where all are 255.
abbrev pub after_prefix : List ℕ → Option Key
after_prefix [] = None
after_prefix (b ∷ bs) = elim (after_prefix bs) [
  | Some more ↦ Some (b ∷ more)
  | None ↦ cond (nat_lt b 255) (Some ((b + 1) ∷ [])) None
]

-- up to where a page goes: to where the rest of its range begins, or to the end of the range
abbrev pub end_of_page : KeyRange → Option KeyRange → Option Key
end_of_page range None = range.to
end_of_page range (Some rest) = Some rest.from

-- the rest of a range begins above where the range does, and goes as far
abbrev pub IsRestOf : KeyRange → Option KeyRange → Type 0
IsRestOf range None = Unit {0}
IsRestOf range (Some rest) = IsTrue (key_lt range.from rest.from) × (rest.to ≡ range.to)

-- rows that rise, with this value at a key, or none
abbrev pub with_value : List KeyValue → Key → Option Value → List KeyValue
with_value [] k o = row_of k o
with_value (x ∷ xs) k o = cond (key_lt x.key k) (x ∷ with_value xs k o)
    (row_of k o ++ cond (bytes_eq x.key k) xs (x ∷ xs))

-- the first of these rows is of a key
abbrev pub is_first_of : List KeyValue → Key → Bool
is_first_of [] k = false
is_first_of (x ∷ xs) k = bytes_eq x.key k

-- ---- what was entered, over rows

-- what the first change of a key does to it
abbrev pub entry_in : List Change → Key → Option Mutation
entry_in [] k = None
entry_in (c ∷ cs) k = cond (bytes_eq c.key k) (Some c.mutation) (entry_in cs k)

-- the value that a change leaves
abbrev pub value_of : Mutation → Option Value
value_of (mutation.Put v) = Some v
value_of (mutation.Insert v) = Some v
value_of mutation.Delete = None
value_of mutation.Lock = None

-- a value, and what was entered of its key over that
abbrev pub over : Option Mutation → Option Value → Option Value
over (Some (mutation.Put v)) o = Some v
over (Some (mutation.Insert v)) o = Some v
over (Some mutation.Delete) o = None
over (Some mutation.Lock) o = o
over None o = o

-- New rows are the old ones with what changes leave of the keys that pass a test over them.
pub record AreEntered (test : Key → Bool) (changes : List Change) (old new : List KeyValue) : Type 0 where
  pub rising : IsRising new
  pub within : (k : Key) (v : Value) → value_in new k ≡ Some v → IsTrue (test k)
  pub each : (k : Key) → IsTrue (test k) → value_in new k ≡ over (entry_in changes k) (value_in old k)
