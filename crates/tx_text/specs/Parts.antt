-- The JSON value of a line, and its members.
use Rattle.std.specs.Prelude.{ℕ, suc, List, [], ◌∷◌, ◌++◌, map, Option, None, if◌then◌else◌}
use Rattle.std.specs.Str.{is_utf8}
use Rattle.serde_json.specs.Data.{Data, Items, no_items, item, string, number, unsigned, null, array}
use Rattle.serde_json.specs.Read.{read}
use Rattle.serde_json.specs.View.{view, items_of}
use Rattle.tx_text.specs.declared.part.Part.{Part}
use Rattle.tx_text.specs.declared.part.Part.TheVariants.{Text, Number, Null, Other}
use Rattle.tx_text.specs.declared.row_list.ListItem.{ListItem}
use Rattle.tx_text.specs.declared.row_list.ListItem.TheVariants.{Pair, Triple}
use Rattle.tx_text.specs.declared.row_list.Scanned.{Scanned}
use Rattle.tx_text.specs.declared.row_list.Scanned.TheVariants.{Plain, Listed}

-- the value of a line, as `serde_json` reads it
abbrev pub json_of : List ℕ → Option Data
json_of line = if is_utf8 line then read line else None

-- the value of a member
abbrev pub part_data : Part → Data
part_data (Text s) = string s.now
part_data (Number n) = number (unsigned n)
part_data Null = null
part_data (Other v) = view v.now

-- the values of all members
abbrev pub parts_items : List Part → Items
parts_items parts = items_of (map part_data parts)

-- a row: the array of its strings
abbrev pub row_data : ListItem → Data
row_data (Pair a b) = array (item (string a.now) (item (string b.now) no_items))
row_data (Triple a b c) = array (item (string a.now) (item (string b.now) (item (string c.now) no_items)))

-- members, and after them the array of rows
abbrev pub listed_items : List Part → List ListItem → Items
listed_items parts rows = items_of (map part_data parts ++ array (items_of (map row_data rows)) ∷ [])

-- plain members, and what comes after them
abbrev pub scanned_items : List Part → Scanned → Items
scanned_items parts Plain = parts_items parts
scanned_items parts (Listed rows) = listed_items parts rows.items

-- how many members an array has
abbrev pub count : Items → ℕ
count no_items = 0
count (item d ds) = suc (count ds)
