-- The texts of words are ASCII.
use Rattle.std.proofs.Common.{ℕ, zero, suc, ◌+◌, ◌%◌, ◌^◌, ◌<◌, [], ◌∷◌, ◌++◌, replicate, decimal, arith}
use Rattle.std.specs.Prelude.{IsUtf8, IsAscii}
use Rattle.std.proofs.lemmas.Fmt.{IsAscii-decimal}
use Rattle.std.proofs.lemmas.Str.{IsAscii-append, IsUtf8-from_ascii}
use Rattle.std.proofs.lemmas.Str.Ascii.{IsAscii-nil, IsAscii-cons}
use Rattle.tx_generate.specs.Words.{numbered}

numbered_ascii : (letter n : ℕ) → letter < 128 → n < 2 ^ 64 → IsAscii (numbered letter n)
numbered_ascii letter n small h = IsAscii-cons letter (decimal n) small (IsAscii-decimal n h)

dots_ascii : (k : ℕ) → IsAscii (replicate k 46)
dots_ascii zero = IsAscii-nil
dots_ascii (suc k) = IsAscii-cons 46 (replicate k 46) (omega arith) (dots_ascii k)

pub numbered_utf8 : (letter n : ℕ) → letter < 128 → n < 2 ^ 64 → IsUtf8 (numbered letter n)
numbered_utf8 letter n small h = IsUtf8-from_ascii (numbered letter n) (numbered_ascii letter n small h)

pub letter_utf8 : (n : ℕ) → IsUtf8 ((97 + n % 26) ∷ [])
letter_utf8 n = IsUtf8-from_ascii ((97 + n % 26) ∷ []) (IsAscii-cons (97 + n % 26) [] (omega arith) IsAscii-nil)

pub long_utf8 : (n k : ℕ) → n < 2 ^ 64 → IsUtf8 (numbered 108 n ++ replicate k 46)
long_utf8 n k h =
    IsUtf8-from_ascii (numbered 108 n ++ replicate k 46)
    (IsAscii-append (numbered 108 n) (replicate k 46) (numbered_ascii 108 n (omega arith) h) (dots_ascii k))
