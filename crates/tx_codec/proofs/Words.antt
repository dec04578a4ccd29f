-- Numbers that are written as bytes, the highest first, and read again.
use Rattle.std.proofs.Common.{◌≡◌, ℕ, ◌^◌, ◌<◌, List, length, get_or, ◌∙◌, arith}
use Rattle.std.specs.Int.{w16, w32, w64, to_be_bytes, from_be_bytes}
use Rattle.std.proofs.lemmas.Nat.{be_bytes_2, be_bytes_4, be_bytes_8, from_be_bytes-to_be_bytes_2, from_be_bytes-to_be_bytes_4, from_be_bytes-to_be_bytes_8}
use Rattle.byteorder.specs.Endian.{big_number}

-- each item is a byte
abbrev pub AreBytes : List ℕ → Type 0
AreBytes bytes = (i : ℕ) → get_or bytes i 0 < 256

same_number_8 : (bytes : List ℕ) → big_number 8 bytes ≡ from_be_bytes w64 bytes
same_number_8 bytes = omega arith

same_number_4 : (bytes : List ℕ) → big_number 4 bytes ≡ from_be_bytes w32 bytes
same_number_4 bytes = omega arith

same_number_2 : (bytes : List ℕ) → big_number 2 bytes ≡ from_be_bytes w16 bytes
same_number_2 bytes = omega arith

pub read_8 : (bytes : List ℕ) → length bytes ≡ 8 → AreBytes bytes → to_be_bytes w64 (big_number 8 bytes) ≡ bytes
read_8 bytes size fits = be_bytes_8 bytes (big_number 8 bytes) size fits (same_number_8 bytes)

pub read_4 : (bytes : List ℕ) → length bytes ≡ 4 → AreBytes bytes → to_be_bytes w32 (big_number 4 bytes) ≡ bytes
read_4 bytes size fits = be_bytes_4 bytes (big_number 4 bytes) size fits (same_number_4 bytes)

pub read_2 : (bytes : List ℕ) → length bytes ≡ 2 → AreBytes bytes → to_be_bytes w16 (big_number 2 bytes) ≡ bytes
read_2 bytes size fits = be_bytes_2 bytes (big_number 2 bytes) size fits (same_number_2 bytes)

pub again_8 : (n : ℕ) → n < 2 ^ 64 → big_number 8 (to_be_bytes w64 n) ≡ n
again_8 n lt = same_number_8 (to_be_bytes w64 n) ∙ from_be_bytes-to_be_bytes_8 n lt

pub again_4 : (n : ℕ) → n < 2 ^ 32 → big_number 4 (to_be_bytes w32 n) ≡ n
again_4 n lt = same_number_4 (to_be_bytes w32 n) ∙ from_be_bytes-to_be_bytes_4 n lt

pub again_2 : (n : ℕ) → n < 2 ^ 16 → big_number 2 (to_be_bytes w16 n) ≡ n
again_2 n lt = same_number_2 (to_be_bytes w16 n) ∙ from_be_bytes-to_be_bytes_2 n lt

pub below_8 : (bytes : List ℕ) → AreBytes bytes → big_number 8 bytes < 2 ^ 64
below_8 bytes fits = omega (arith, fits 0, fits 1, fits 2, fits 3, fits 4, fits 5, fits 6, fits 7)

pub below_4 : (bytes : List ℕ) → AreBytes bytes → big_number 4 bytes < 2 ^ 32
below_4 bytes fits = omega (arith, fits 0, fits 1, fits 2, fits 3)

pub below_2 : (bytes : List ℕ) → AreBytes bytes → big_number 2 bytes < 2 ^ 16
below_2 bytes fits = omega (arith, fits 0, fits 1)
