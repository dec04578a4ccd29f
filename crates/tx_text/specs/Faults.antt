-- The words of a fault, which ends a script.
use Rattle.std.specs.Prelude.{ℕ, List, codes}
use Rattle.serde_json.specs.Data.{Items, no_items, item, string}
use Rattle.tx_types.specs.declared.fault.Cause.{Cause}
use Rattle.tx_types.specs.declared.fault.Cause.TheVariants.{Json, Form, Name, Order, Long, Lines, Sessions}

-- the word of a cause
abbrev pub cause_word : Cause → List ℕ
cause_word Json = codes "json"
cause_word Form = codes "form"
cause_word Name = codes "name"
cause_word Order = codes "order"
cause_word Long = codes "long"
cause_word Lines = codes "lines"
cause_word Sessions = codes "sessions"

-- the words of a fault
abbrev pub fault_words : Cause → Items
fault_words cause = item (string (codes "E16")) (item (string (cause_word cause)) no_items)
