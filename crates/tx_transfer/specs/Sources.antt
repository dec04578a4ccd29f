-- The text of a script, and which transfer a line of it says.
use Rattle.std.specs.Prelude.{◌≡◌, ℕ, ◌-◌, List, slice_get, IfSome, Option, Some, None, option_map, option_and_then, Result, Ok, Err}
use Rattle.serde_json.specs.Data.{Data}
use Rattle.tx_types.specs.declared.fault.Cause.{Cause}
use Rattle.tx_types.specs.declared.key.Key.{Key}
use Rattle.tx_text.specs.Lines.{lines_of}
use Rattle.tx_steps.specs.declared.program.Program.TheVariants.{Run}
use Rattle.tx_steps.specs.declared.step.Step.{Step}
use Rattle.tx_steps.specs.declared.step.Step.TheVariants.{Transfer}
use Rattle.tx_steps.specs.declared.transfer.Transfer as transfer
use Rattle.tx_steps.specs.Steps.{Text}
use Rattle.tx_steps.specs.Lines.{data_said, step_in}

-- the two keys that a step moves between, where it is a transfer
abbrev pub pair_of : Step Text → Option (Key × Key)
pair_of (Transfer name what) = Some (what.from, what.to)
pair_of _ = None

-- the same, of what a line says
abbrev pub pair_in : Result Data Cause → Option (Key × Key)
pair_in (Ok d) = option_and_then pair_of (step_in Run d)
pair_in (Err c) = None

-- the two keys of the transfer that the line of this number says, where it says one
abbrev pub pair_said : ℕ → List ℕ → Option (Key × Key)
pair_said number line = pair_in (data_said number line)

-- a text has this line under this number, where the text is known
abbrev pub HasLine : Option (List ℕ) → ℕ → List ℕ → Type 0
HasLine source number line = IfSome source (λ text. slice_get (lines_of text) (number - 1) ≡ Some line)

-- what the line of this number says of that, where the text has such a line
abbrev pub pair_at : List ℕ → ℕ → Option (Option (Key × Key))
pair_at text number = option_map (pair_said number) (slice_get (lines_of text) (number - 1))

-- a text has a line of this number, and it says a transfer between these keys, or none; where
-- the text is known
abbrev pub HasPair : Option (List ℕ) → ℕ → Option (Key × Key) → Type 0
HasPair source number keys = IfSome source (λ text. pair_at text number ≡ Some keys)

-- the transfer that a step says, where it says one
abbrev pub transfer_of : Step Text → Option (transfer.Transfer Text)
transfer_of (Transfer name what) = Some what
transfer_of _ = None

-- the same, of what a line says
abbrev pub transfer_in : Result Data Cause → Option (transfer.Transfer Text)
transfer_in (Ok d) = option_and_then transfer_of (step_in Run d)
transfer_in (Err c) = None

-- what the line of this number says of that, where the text has such a line
abbrev pub transfer_at : List ℕ → ℕ → Option (Option (transfer.Transfer Text))
transfer_at text number =
    option_map (λ line. transfer_in (data_said number line)) (slice_get (lines_of text) (number - 1))

-- a text has a line of this number, and it says this transfer, or none; where the text is known
abbrev pub HasTransfer : Option (List ℕ) → ℕ → Option (transfer.Transfer Text) → Type 0
HasTransfer source number said = IfSome source (λ text. transfer_at text number ≡ Some said)
