-- The members of a line that many lines have, and the text of a reply line.
use Rattle.std.specs.Prelude.{ℕ, List}
use Rattle.serde_json.specs.Data.{Data, Items, no_items, item, number, unsigned, string, array}
use Rattle.tx_types.specs.declared.mutation.KeyValue.{KeyValue}
use Rattle.tx_text.specs.Texts.{line_text, text_of}

-- a word alone, and with a number
abbrev pub alone : List ℕ → Items
alone word = item (string word) no_items

abbrev pub with_number : List ℕ → ℕ → Items
with_number word n = item (string word) (item (number (unsigned n)) no_items)

-- a timestamp, as its number
abbrev pub stamp_data : ℕ → Data
stamp_data t = number (unsigned t)

-- a row of a scan: the key and its value
abbrev pub row_data : KeyValue → Data
row_data row = array (item (text_of row.key) (item (text_of row.value) no_items))

-- a reply line: the number of its line, and the words
abbrev pub reply_text : ℕ × Items → List ℕ
reply_text reply = line_text (item (number (unsigned reply.0)) reply.1)
