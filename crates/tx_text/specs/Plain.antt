-- Bytes that do not stand for themselves in a string of JSON.
-- Only this crate's own clauses cite it.
use Rattle.std.specs.Prelude.{ℕ, Bool, ◌||◌, ◌==◌, nat_lt, nat_le}

-- a quote, a backslash or a control byte
abbrev pub is_stop : ℕ → Bool
is_stop x = ((x == 34) || (x == 92)) || nat_lt x 32

-- one of them, or a byte that is no ASCII
abbrev pub is_foreign : ℕ → Bool
is_foreign x = is_stop x || nat_le 128 x
