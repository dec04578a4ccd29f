-- The bytes that stand for a key, and for a key at a timestamp.
use Rattle.std.specs.Prelude.{◌≡◌, ℕ, ◌-◌, ◌^◌, ◌<◌, List, [], ◌∷◌, ◌++◌, length, replicate}
use Rattle.std.specs.Ordering.{nat_cmp, ordering_then}
use Rattle.std.specs.Cmp.Lexicographic.{slice_cmp}
use Rattle.std.specs.Int.{w64, to_be_bytes}
pub use Rattle.tx_types.specs.Lengths.{IsKey}

-- the last group of a key, of fewer than 8 bytes: they, zeros up to 8 bytes, and 255 minus the
-- number of the zeros
abbrev pub last_group : List ℕ → List ℕ
last_group part = part ++ replicate (8 - length part) 0 ++ (255 - (8 - length part)) ∷ []

-- An encoded key: each whole group of 8 bytes and 255, then the last group, of what is
-- left of the key.
unfoldable pub encoded_key : List ℕ → List ℕ
encoded_key (a ∷ b ∷ c ∷ d ∷ e ∷ f ∷ g ∷ h ∷ rest) = a ∷ b ∷ c ∷ d ∷ e ∷ f ∷ g ∷ h ∷ 255 ∷ encoded_key rest
encoded_key part = last_group part

-- the 8 bytes of a timestamp's complement, the highest first
abbrev pub encoded_timestamp : ℕ → List ℕ
encoded_timestamp ts = to_be_bytes w64 (2 ^ 64 - 1 - ts)

-- an encoded version
abbrev pub encoded_version : List ℕ → ℕ → List ℕ
encoded_version key ts = encoded_key key ++ encoded_timestamp ts

-- Keys order as the bytes that stand for them, taken as whole byte strings.
abbrev pub KeysKeepOrder : Type 0
KeysKeepOrder = (a b : List ℕ) → slice_cmp nat_cmp (encoded_key a) (encoded_key b) ≡ slice_cmp nat_cmp a b

-- Encoded versions order as their keys, and those of one key by falling timestamps.
abbrev pub VersionsKeepOrder : Type 0
VersionsKeepOrder =
    (a b : List ℕ) (s t : ℕ) → s < 2 ^ 64 → t < 2 ^ 64
    → slice_cmp nat_cmp (encoded_version a s) (encoded_version b t)
    ≡ ordering_then (slice_cmp nat_cmp a b) (nat_cmp t s)
