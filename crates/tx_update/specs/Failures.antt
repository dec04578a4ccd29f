-- Why a work went no further.
use Rattle.std.specs.Prelude.{◌≡◌, ℕ, Bool, false, Option, Some, None, Result, Ok, Err}
use Rattle.tx_core.specs.declared.event.Outcome.{Outcome}
use Rattle.tx_core.specs.declared.event.Outcome.TheVariants as outcome
use Rattle.tx_update.specs.declared.stops.Stop.{Stop}
use Rattle.tx_update.specs.declared.failure.Failure.{Failure}
use Rattle.tx_update.specs.declared.failure.Failure.TheVariants.{Own, Stopped}
use Rattle.tx_update.specs.Stops as stops

-- a refusal of its own stays; what stopped its transaction may pass
abbrev pub may_pass : {E : Type 0} → Failure E → Bool
may_pass (Own e) = false
may_pass (Stopped stop) = stops.may_pass stop

-- whether one that begins later may go further than a transaction that ended so: it was without
-- effect, and what stopped it may pass
abbrev pub may_go_further : {E : Type 0} → Outcome → Option (Failure E) → Bool
may_go_further outcome.Aborted (Some failure) = may_pass failure
may_go_further outcome.ReadOnly (Some failure) = may_pass failure
may_go_further _ _ = false

-- a session that has no outcome was itself refused something, which is told
abbrev pub IsOpenStop : {E : Type 0} → Option (Failure E) → Type 0
IsOpenStop (Some (Stopped stop)) = stops.IsOwnRefusal stop
IsOpenStop _ = ⊥

-- a work is not to be tried once more, after so many tries that came to nothing, of which this
-- stopped the last
abbrev pub EndsAt : {W E : Type 0} → (W → ℕ → Stop → Type 0) → W → ℕ → Option (Failure E) → Type 0
EndsAt stops_at work tries (Some (Stopped stop)) = stops_at work tries stop
EndsAt stops_at work tries _ = Unit {0}

-- what stopped the transaction after the work had answered
abbrev pub failure_in : {E : Type 0} → Result (Unit {0}) Stop → Option (Failure E)
failure_in (Ok x) = None
failure_in (Err stop) = Some (Stopped stop)

-- What is told of what a work answered: its value, though something may have stopped the
-- transaction after that; or why it failed, and no value.
abbrev pub TellsOfWork : {O E : Type 0} → Result O (Failure E) → Option O → Option (Failure E) → Type 0
TellsOfWork (Ok answer) value None = value ≡ Some answer
TellsOfWork (Ok answer) value (Some (Stopped stop)) = value ≡ Some answer
TellsOfWork (Ok answer) value (Some (Own e)) = ⊥
TellsOfWork (Err failure) value failed = (value ≡ None) × (failed ≡ Some failure)
