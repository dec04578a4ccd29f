-- The step of the one-step machine that a line says, over the line's JSON value. Strings stand for
-- their UTF-8 bytes.
use Rattle.std.specs.Prelude.{ℕ, ◌&&◌, List, [], ◌∷◌, length, nat_le, Option, Some, None, option_map, option_and_then, is_some, if◌then◌else◌, bytes_eq, codes}
use Rattle.serde_json.specs.Data.{Data, Items, no_items, item}
use Rattle.serde_json.specs.Find.{as_array, as_null, as_str, as_number, as_u64}
use Rattle.tx_types.specs.declared.limits.TheConstants.{MAX_SCAN_ROWS, MAX_VALUE_BYTES}
use Rattle.tx_types.specs.Lengths.{is_key}
use Rattle.tx_types.specs.declared.key.Key.{Key}
use Rattle.tx_types.specs.declared.value.Value.{Value}
use Rattle.tx_types.specs.declared.mutation.Mutation.{Mutation}
use Rattle.tx_types.specs.declared.mutation.Mutation.TheVariants as mutation
use Rattle.tx_types.specs.declared.mutation.Change.{Change}
use Rattle.tx_types.specs.declared.mutation.KeyValue.{KeyValue}
use Rattle.tx_types.specs.declared.mutation.Fate.{Fate}
use Rattle.tx_types.specs.declared.mutation.Fate.TheVariants as fate
use Rattle.tx_machine.specs.declared.step.ScanRead.{ScanRead}
use Rattle.tx_machine.specs.declared.step.Step.{Step}
use Rattle.tx_machine.specs.declared.step.Step.TheVariants.{Draw, Begin, Declare, Commit, Abort, Read, Scan, Answer}

-- a whole number from 0 to 2^64 - 1
abbrev pub number_of : Data → Option ℕ
number_of d = option_and_then as_u64 (as_number d)

-- a string of 1 to 512 bytes
abbrev pub key_of : Data → Option Key
key_of d = option_and_then (λ text. if is_key text then Some text else None) (as_str d)

-- a string of at most 65,536 bytes
abbrev pub value_of : Data → Option Value
value_of d = option_and_then (λ text. if nat_le (length text) MAX_VALUE_BYTES then Some text else None) (as_str d)

-- what a read found: a value, or null for none
abbrev pub found_of : Data → Option (Option Value)
found_of d = if is_some (as_null d) then Some None else option_map Some (value_of d)

-- how many rows a scan may give: 1 to 1,024
abbrev pub limit_of : Data → Option ℕ
limit_of d = option_and_then (λ n. if nat_le 1 n && nat_le n MAX_SCAN_ROWS then Some n else None) (number_of d)

-- all of a list, where each is one
abbrev pub all_of : {A : Type 0} → (Data → Option A) → Items → Option (List A)
all_of one no_items = Some []
all_of one (item d items) = option_and_then (λ x. option_map (λ xs. x ∷ xs) (all_of one items)) (one d)

-- a list
abbrev pub list_of : {A : Type 0} → (Data → Option A) → Data → Option (List A)
list_of one d = option_and_then (all_of one) (as_array d)

-- the mutations that take no value
abbrev pub plain_of : Data → Option Mutation
plain_of d = option_and_then (λ word. if bytes_eq word (codes "delete") then Some mutation.Delete
    else (if bytes_eq word (codes "lock") then Some mutation.Lock else None)) (as_str d)

-- the mutations that take one
unfoldable pub put_of : Data → Data → Option Mutation
put_of d value = option_and_then (λ word. if bytes_eq word (codes "put") then option_map mutation.Put (value_of value)
    else (if bytes_eq word (codes "insert") then option_map mutation.Insert (value_of value) else None)) (as_str d)

-- the change of a key
abbrev pub change_to : Data → Option Mutation → Option Change
change_to key mutation = option_and_then (λ k. option_map (λ m. record { key = k; mutation = m }) mutation) (key_of key)

-- a change, by its members
abbrev pub change_of_items : Items → Option Change
change_of_items (item key (item word no_items)) = change_to key (plain_of word)
change_of_items (item key (item word (item value no_items))) = change_to key (put_of word value)
change_of_items _ = None

-- an entry of a write set: `[key,"put",value]`, `[key,"insert",value]`, `[key,"delete"]`
-- or `[key,"lock"]`
abbrev pub change_of : Data → Option Change
change_of d = option_and_then change_of_items (as_array d)

-- a row, by its members
abbrev pub row_of_items : Items → Option KeyValue
row_of_items (item key (item value no_items)) = option_and_then (λ k. option_map (λ v. record {
  key = k;
  value = v;
}) (value_of value)) (key_of key)
row_of_items _ = None

-- a row of a scan: `[key,value]`
abbrev pub row_of : Data → Option KeyValue
row_of d = option_and_then row_of_items (as_array d)

-- `["draw",n]`, `["begin",t]`, `["abort",t]`
abbrev pub two_of : Data → Data → Option Step
two_of word first = option_and_then (λ w. if bytes_eq w (codes "draw") then option_map Draw (number_of first)
    else (if bytes_eq w (codes "begin") then option_map Begin (number_of first)
    else (if bytes_eq w (codes "abort") then option_map Abort (number_of first) else None))) (as_str word)

-- the word "aborted"
abbrev pub aborted_of : Data → Option Fate
aborted_of d = option_and_then (λ w. if bytes_eq w (codes "aborted") then Some fate.Aborted else None) (as_str d)

-- the word "committed" and a number
abbrev pub committed_of : Data → Data → Option Fate
committed_of d at = option_and_then (λ w. if bytes_eq w (codes "committed")
    then option_map fate.Committed (number_of at) else None) (as_str d)

-- `["declare",t,changes]`, `["commit",t,c]`, `["answer",t,"aborted"]`
abbrev pub three_of : Data → Data → Data → Option Step
three_of word first second = option_and_then (λ w.
    if bytes_eq w (codes "declare") then option_and_then (λ t. option_map (Declare t) (list_of change_of second))
    (number_of first)
    else (if bytes_eq w (codes "commit") then option_and_then (λ t. option_map (Commit t) (number_of second))
    (number_of first)
    else (if bytes_eq w (codes "answer") then option_and_then (λ t. option_map (Answer t) (aborted_of second))
    (number_of first)
    else None))) (as_str word)

-- `["read",r,key,found]`, `["answer",t,"committed",c]`
abbrev pub four_of : Data → Data → Data → Data → Option Step
four_of word first second third = option_and_then (λ w.
    if bytes_eq w (codes "read") then option_and_then
    (λ r. option_and_then (λ k. option_map (Read k r) (found_of third)) (key_of second)) (number_of first)
    else (if bytes_eq w (codes "answer") then option_and_then (λ t. option_map (Answer t) (committed_of second third))
    (number_of first)
    else None)) (as_str word)

-- the members of a scan: `r,from,to,limit,rows`
abbrev pub scan_of : Data → Data → Data → Data → Data → Option ScanRead
scan_of at from to limit rows =
    option_and_then (λ r. option_and_then (λ f. option_and_then (λ t. option_and_then (λ l.
    option_map (λ rs. record {
      from = f;
      to = t;
      at = r;
      limit = l;
      rows = rs;
    }) (list_of row_of rows)) (limit_of limit)) (key_of to)) (key_of from)) (number_of at)

-- `["scan",r,from,to,limit,rows]`
abbrev pub six_of : Data → Data → Data → Data → Data → Data → Option Step
six_of word at from to limit rows = option_and_then (λ w. if bytes_eq w (codes "scan")
    then option_map Scan (scan_of at from to limit rows) else None) (as_str word)

-- a step, by its members
abbrev pub step_of_items : Items → Option Step
step_of_items (item word (item first no_items)) = two_of word first
step_of_items (item word (item first (item second no_items))) = three_of word first second
step_of_items (item word (item first (item second (item third no_items)))) = four_of word first second third
step_of_items (item word (item at (item from (item to (item limit (item rows no_items)))))) =
    six_of word at from to limit rows
step_of_items _ = None

-- the step that a value says by itself
abbrev pub step_alone : Data → Option Step
step_alone d = option_and_then step_of_items (as_array d)

-- `[n,step]`: a step beside the number of the script's line during which it was taken
abbrev pub step_beside_items : Items → Option Step
step_beside_items (item n (item d no_items)) = option_and_then (λ _. step_alone d) (number_of n)
step_beside_items _ = None

abbrev pub step_beside : Data → Option Step
step_beside d = option_and_then step_beside_items (as_array d)

-- the step that a value says, where it is one
abbrev pub step_of : Data → Option Step
step_of d = if is_some (step_alone d) then step_alone d else step_beside d
