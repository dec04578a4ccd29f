-- What a line of a history says, over its JSON value. Strings stand for their UTF-8 bytes.
use Rattle.std.specs.Prelude.{ℕ, ℤ, List, [], ◌∷◌, Option, Some, None, option_map, option_and_then, is_some, unwrap_or, if◌then◌else◌, bytes_eq, codes}
use Rattle.serde_json.specs.Data.{Data, Items, no_items, item}
use Rattle.serde_json.specs.Find.{as_array, as_bool, as_i64, as_null, as_number, as_str, get}
use Rattle.tx_check.specs.MachineSteps.{number_of, key_of, value_of, list_of}
use Rattle.tx_recording.specs.declared.recording.RecordedOutcome.{RecordedOutcome}
use Rattle.tx_recording.specs.declared.recording.RecordedOutcome.TheVariants.{Ok, Fail, Info}
use Rattle.tx_import.specs.declared.name.Name.{Name}
use Rattle.tx_import.specs.declared.name.Name.TheVariants.{Text, Number}
use Rattle.tx_import.specs.declared.name.Scalar.{Scalar}
use Rattle.tx_import.specs.declared.name.Scalar.TheVariants as scalar
use Rattle.tx_import.specs.declared.line_content.SaidAct.{SaidAct}
use Rattle.tx_import.specs.declared.line_content.SaidAct.TheVariants.{Append, Write, Read, ReadList}
use Rattle.tx_import.specs.declared.line_content.SaidOp.{SaidOp}
use Rattle.tx_import.specs.declared.line_content.SaidTransaction.{SaidTransaction}

-- a name: a whole number from 0 to 2^64 - 1, or a string of 1 to 512 bytes
abbrev pub name_of : Data → Option Name
name_of d = if is_some (number_of d) then option_map Number (number_of d) else option_map Text (key_of d)

-- a whole number from -2^63 to 2^63 - 1
abbrev pub signed_of : Data → Option ℤ
signed_of d = option_and_then as_i64 (as_number d)

-- a value: a whole number from -2^63 to 2^64 - 1, true or false, or a string of at most 65,536
-- bytes
abbrev pub scalar_of : Data → Option Scalar
scalar_of d = if is_some (number_of d) then option_map scalar.Number (number_of d)
    else (if is_some (signed_of d) then option_map scalar.Negative (signed_of d)
    else (if is_some (as_bool d) then option_map scalar.Truth (as_bool d)
    else option_map scalar.Text (value_of d)))

-- what a read of a register found: null for nothing, or one value
abbrev pub value_alone : Data → Option (List Scalar)
value_alone d = if is_some (as_null d) then Some [] else option_map (λ x. x ∷ []) (scalar_of d)

-- a read: of a list with its values; of a register with null for nothing, or one value
abbrev pub read_of : Data → Option SaidAct
read_of d = if is_some (as_array d) then option_map ReadList (list_of scalar_of d)
    else option_map Read (value_alone d)

-- what an operation did: "append" a value, write it ("w"), or read values ("r")
abbrev pub act_of : Data → Data → Option SaidAct
act_of word d = option_and_then (λ w. if bytes_eq w (codes "append") then option_map Append (scalar_of d)
    else (if bytes_eq w (codes "w") then option_map Write (scalar_of d)
    else (if bytes_eq w (codes "r") then read_of d else None))) (as_str word)

-- an operation, by its members
abbrev pub op_of_items : Items → Option SaidOp
op_of_items (item word (item key (item value no_items))) =
    option_and_then (λ k. option_map (λ a. record { key = k; act = a }) (act_of word value)) (name_of key)
op_of_items _ = None

-- an operation: `["append",key,value]`, `["w",key,value]` or `["r",key,values]`
abbrev pub op_of : Data → Option SaidOp
op_of d = option_and_then op_of_items (as_array d)

-- a member that may be absent or null
abbrev pub optional : {A : Type 0} → (Data → Option A) → Option Data → Option (Option A)
optional one None = Some None
optional one (Some d) = if is_some (as_null d) then Some None else option_map Some (one d)

-- what is known of a transaction's end: "ok", "fail" or "info"
abbrev pub outcome_of : Data → Option RecordedOutcome
outcome_of d = option_and_then (λ w. if bytes_eq w (codes "ok") then Some Ok
    else (if bytes_eq w (codes "fail") then Some Fail
    else (if bytes_eq w (codes "info") then Some Info else None))) (as_str d)

abbrev pub outcome_said : Data → Option RecordedOutcome
outcome_said d = option_and_then outcome_of (get (codes "type") d)

abbrev pub ops_said : Data → Option (List SaidOp)
ops_said d = option_and_then (list_of op_of) (get (codes "ops") d)

-- the transaction that the line of this number says: an object with a `type` and a list of `ops`,
-- and where there are some an `id`, a `start`, an `end` and a `process`
abbrev pub transaction_of : ℕ → Data → Option SaidTransaction
transaction_of line d =
    option_and_then (λ outcome. option_and_then (λ id. option_and_then (λ began. option_and_then (λ ended.
    option_and_then (λ process. option_map (λ ops. record {
      id = unwrap_or id line;
      outcome = outcome;
      process = process;
      began = began;
      ended = ended;
      ops = ops;
    }) (ops_said d)) (optional name_of (get (codes "process") d))) (optional number_of (get (codes "end") d)))
    (optional number_of (get (codes "start") d))) (optional number_of (get (codes "id") d))) (outcome_said d)
