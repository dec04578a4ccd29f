-- Text as markup has it.
use Rattle.std.specs.Prelude.{ℕ, ◌-◌, ◌==◌, Bool, ◌&&◌, cond, List, [], ◌∷◌, ◌++◌, length, zero, suc, codes, nat_lt, slice_index_or}

-- what is written of each number below one, in turn
abbrev pub each_of : {A : Type 0} → (ℕ → List A) → ℕ → List A
each_of f zero = []
each_of f (suc n) = each_of f n ++ f n

abbrev pub byte_at : List ℕ → ℕ → ℕ
byte_at text i = slice_index_or text i 0

-- the byte at a place ends a character that markup may not have, which is U+FFFE or U+FFFF
abbrev pub is_no_character : List ℕ → ℕ → Bool
is_no_character text i = (byte_at text (i - 2) == 239) && ((byte_at text (i - 1) == 191) && nat_lt 189 (byte_at text i))

-- a byte: a sign that markup has a use for by its name
abbrev pub named_byte : ℕ → List ℕ
named_byte b = cond (b == 38) (codes "&amp;") (cond (b == 60) (codes "&lt;") (cond (b == 62) (codes "&gt;") (b ∷ [])))

-- the byte at a place: U+FFFD stands for what markup may not have
abbrev pub marked_byte : List ℕ → ℕ → List ℕ
marked_byte text i = cond (is_no_character text i) (189 ∷ []) (named_byte (byte_at text i))

abbrev pub marked : List ℕ → List ℕ
marked text = each_of (marked_byte text) (length text)
