-- The texts of a script by chance: a letter says what is named, and a number which.
use Rattle.std.specs.Prelude.{ℕ, ◌+◌, ◌%◌, List, [], ◌∷◌, ◌++◌, replicate, decimal}
use Rattle.tx_types.specs.declared.limits.TheConstants.{MAX_VALUE_BYTES}
use Rattle.tx_generate.specs.declared.word.TheConstants.{LONG_BYTES}
use Rattle.tx_generate.specs.declared.word.Word.{Word}
use Rattle.tx_generate.specs.declared.word.Word.TheVariants.{Session, Held, Key, Many, Empty, Value, Long, TooLong}

-- a letter and a number
abbrev pub numbered : ℕ → ℕ → List ℕ
numbered letter n = letter ∷ decimal n

-- the bytes of a name, a key or a value; full stops fill a long one up
abbrev pub word_text : Word → List ℕ
word_text (Session n) = numbered 84 n
word_text (Held n) = numbered 104 n
word_text (Key n) = (97 + n % 26) ∷ []
word_text (Many n) = numbered 107 n
word_text Empty = []
word_text (Value n) = numbered 118 n
word_text (Long n) = numbered 108 n ++ replicate LONG_BYTES 46
word_text (TooLong n) = numbered 108 n ++ replicate MAX_VALUE_BYTES 46
