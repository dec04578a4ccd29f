-- The text of a line of words.
use Rattle.std.specs.Prelude.{ℕ, List, [], ◌∷◌, ◌++◌, if◌then◌else◌}
use Rattle.std.specs.Str.{is_utf8}
use Rattle.serde_json.specs.Data.{Data, Items, no_items, item, string, null, array}
use Rattle.serde_json.specs.Written.{compact_text}

-- the line that says words: their compact JSON array, and a newline
abbrev pub line_text : Items → List ℕ
line_text items = compact_text (array items) ++ 10 ∷ []

-- bytes that are no UTF-8 text are written as null
abbrev pub text_of : List ℕ → Data
text_of bytes = if is_utf8 bytes then string bytes else null

-- the text of an array's later members, each with a comma before it
abbrev pub members_text : Items → List ℕ
members_text no_items = []
members_text (item d ds) = 44 ∷ (compact_text d ++ members_text ds)
