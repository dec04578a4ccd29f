-- What is said of what a transaction answers.
use Rattle.std.specs.Prelude.{ℕ, Option, Some, None, Result, Ok, Err}
use Rattle.tx_types.specs.declared.value.Value.{Value}
use Rattle.tx_types.specs.declared.mutation.KeyValue.{KeyValue}
use Rattle.tx_update.specs.declared.stops.Stop.{Stop}
use Rattle.tx_embed.specs.declared.answer.Said.{Said}
use Rattle.tx_embed.specs.declared.answer.Said.TheVariants as said
use Rattle.tx_embed.specs.declared.open_transaction.NotCommitted.{NotCommitted}
use Rattle.tx_embed.specs.declared.open_transaction.NotCommitted.TheVariants as uncommitted

-- of the read of a key
abbrev pub told_found : Result (Option Value) Stop → Said
told_found (Ok (Some v)) = said.Found v
told_found (Ok None) = said.Absent
told_found (Err stop) = said.Stopped stop

-- of the read of a row
abbrev pub told_row : Result (Option KeyValue) Stop → Said
told_row (Ok (Some row)) = said.Row row
told_row (Ok None) = said.Absent
told_row (Err stop) = said.Stopped stop

-- of what was to be entered
abbrev pub told_entry : Result (Unit {0}) Stop → Said
told_entry (Ok x) = said.Done
told_entry (Err stop) = said.Stopped stop

-- of a commit
abbrev pub told_ending : Result (Option ℕ) NotCommitted → Said
told_ending (Ok (Some at)) = said.Committed at
told_ending (Ok None) = said.ReadOnly
told_ending (Err (uncommitted.Stopped stop)) = said.Stopped stop
told_ending (Err uncommitted.Unknown) = said.Unknown
