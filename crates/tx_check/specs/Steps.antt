-- The words of the machine's steps, and the text of their lines.
use Rattle.std.specs.Prelude.{ℕ, List, codes, map, Option, Some, None}
use Rattle.serde_json.specs.Data.{Data, Items, no_items, item, number, unsigned, string, null, array}
use Rattle.serde_json.specs.View.{items_of}
use Rattle.tx_types.specs.declared.value.Value.{Value}
use Rattle.tx_types.specs.declared.mutation.Change.{Change}
use Rattle.tx_types.specs.declared.mutation.Mutation.{Mutation}
use Rattle.tx_types.specs.declared.mutation.Mutation.TheVariants as mutation
use Rattle.tx_types.specs.declared.mutation.Fate.{Fate}
use Rattle.tx_types.specs.declared.mutation.Fate.TheVariants as fate
use Rattle.tx_machine.specs.declared.step.Step.{Step}
use Rattle.tx_machine.specs.declared.step.Step.TheVariants.{Draw, Begin, Declare, Commit, Abort, Read, Scan, Answer}
use Rattle.tx_text.specs.Texts.{line_text, text_of}
use Rattle.tx_text.specs.Members.{alone, with_number, row_data}

-- what is done to a key
abbrev pub mutation_words : Mutation → Items
mutation_words (mutation.Put v) = item (string (codes "put")) (item (text_of v) no_items)
mutation_words (mutation.Insert v) = item (string (codes "insert")) (item (text_of v) no_items)
mutation_words mutation.Delete = alone (codes "delete")
mutation_words mutation.Lock = alone (codes "lock")

-- an entry of a write set: the key, and what is done to it
abbrev pub change_data : Change → Data
change_data c = array (item (text_of c.key) (mutation_words c.mutation))

-- what a read found: the value, or null
abbrev pub found_data : Option Value → Data
found_data None = null
found_data (Some v) = text_of v

-- how a transaction ended
abbrev pub fate_words : Fate → Items
fate_words (fate.Committed c) = with_number (codes "committed") c
fate_words fate.Aborted = alone (codes "aborted")

-- the word of a step
abbrev pub step_word : Step → List ℕ
step_word (Draw n) = codes "draw"
step_word (Begin t) = codes "begin"
step_word (Declare t changes) = codes "declare"
step_word (Commit t c) = codes "commit"
step_word (Abort t) = codes "abort"
step_word (Read k r found) = codes "read"
step_word (Scan s) = codes "scan"
step_word (Answer t end) = codes "answer"

-- what follows it
abbrev pub step_fields : Step → Items
step_fields (Draw n) = item (number (unsigned n)) no_items
step_fields (Begin t) = item (number (unsigned t)) no_items
step_fields (Declare t changes) = item (number (unsigned t))
    (item (array (items_of (map change_data changes))) no_items)
step_fields (Commit t c) = item (number (unsigned t)) (item (number (unsigned c)) no_items)
step_fields (Abort t) = item (number (unsigned t)) no_items
step_fields (Read k r found) = item (number (unsigned r)) (item (text_of k) (item (found_data found) no_items))
step_fields (Scan s) = item (number (unsigned s.at))
    (item (text_of s.from) (item (text_of s.to) (item (number (unsigned s.limit))
    (item (array (items_of (map row_data s.rows))) no_items))))
step_fields (Answer t end) = item (number (unsigned t)) (fate_words end)

-- the line of a step
abbrev pub step_text : Step → List ℕ
step_text step = line_text (item (string (step_word step)) (step_fields step))

-- the line of a step beside the number of the script's line during which it was taken
abbrev pub beside_text : ℕ × Step → List ℕ
beside_text s = line_text (item (number (unsigned s.0))
    (item (array (item (string (step_word s.1)) (step_fields s.1))) no_items))
