-- The first eight bytes of keys, as numbers.
use Rattle.std.specs.Prelude.{ℕ, ◌+◌, ◌*◌, ◌<◌, zero, suc, List, slice_index_or}

-- what so many bytes from an index on spell behind a number, where zeros stand behind the last
abbrev pub spelt : ℕ → ℕ → List ℕ → ℕ → ℕ
spelt zero i bytes a = a
spelt (suc n) i bytes a = spelt n (suc i) bytes (a * 256 + slice_index_or bytes i 0)

-- the front of a key: what its first eight bytes spell
abbrev pub front : List ℕ → ℕ
front bytes = spelt 8 0 bytes 0

-- each is a byte
abbrev pub AreBytes : List ℕ → Type 0
AreBytes bytes = (i : ℕ) → slice_index_or bytes i 0 < 256
