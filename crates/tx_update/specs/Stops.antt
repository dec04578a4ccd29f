-- What stops a transaction, and whether one that begins later may go further.
use Rattle.std.specs.Prelude.{◌≡◌, ◌<◌, ◌⊎◌, ℕ, Bool, true, false}
use Rattle.tx_types.specs.declared.key.Key.{Key}
use Rattle.tx_types.specs.declared.fault.Fault.TheVariants as fault
use Rattle.tx_types.specs.declared.lock.LockInfo.{LockInfo}
use Rattle.tx_plan.specs.declared.answer.Answer.{Answer}
use Rattle.tx_plan.specs.declared.answer.Answer.TheVariants as answer
use Rattle.tx_core.specs.Histories.{History}
use Rattle.tx_transaction.specs.declared.state.Miss.{Miss}
use Rattle.tx_transaction.specs.declared.state.Miss.TheVariants as miss
use Rattle.tx_client.specs.declared.resolved.WaitCause.TheVariants as wait
use Rattle.tx_reader.specs.Readers.{WasAnsweredAt}
use Rattle.tx_update.specs.declared.stops.Stop.{Stop}
use Rattle.tx_update.specs.declared.stops.Stop.TheVariants as stop

-- what stood in the way passes with time, or a reply was lost: another transaction may go further
abbrev pub may_pass : Stop → Bool
may_pass (stop.Waits key why) = true
may_pass (stop.Conflict key) = true
may_pass stop.RolledBack = true
may_pass stop.BelowSafePoint = true
may_pass stop.Lost = true
may_pass _ = false

-- what a request without an answer comes to
abbrev pub stop_of_miss : Miss → Stop
stop_of_miss miss.Lost = stop.Lost
stop_of_miss miss.Fault = stop.Refused fault.OutOfMemory

-- what a refusal comes to: the key of a lock in the way, where there is memory to tell it, the safe
-- point, or a timestamp that was not drawn yet; by any other the transaction was rolled back
abbrev pub IsStopOfRefusal : Answer → Stop → Type 0
IsStopOfRefusal (answer.KeyIsLocked info) s =
    (s ≡ stop.Waits info.key wait.Live) ⊎ (s ≡ stop.Refused fault.OutOfMemory)
IsStopOfRefusal (answer.BelowSafePoint safe) s = s ≡ stop.BelowSafePoint
IsStopOfRefusal (answer.FutureTimestamp last) s = s ≡ stop.Refused (fault.FutureTimestamp last)
IsStopOfRefusal _ s = s ≡ stop.RolledBack

-- the session was itself refused something, as memory or a tick
abbrev pub IsOwnRefusal : Stop → Type 0
IsOwnRefusal (stop.Refused f) = Unit {0}
IsOwnRefusal _ = ⊥

-- Why a read of a transaction stops that began at this start, by what its seat has seen then, and
-- by where a read may be lost on its way: a read at the start was answered that a lock is in the
-- way, whose key is told, or that the safe point lies above the start; or a read at the start may
-- be lost; or memory was refused.
abbrev pub IsReadStop : (ℕ → Type 0) → History → ℕ → Stop → Type 0
IsReadStop loses h start (stop.Waits key why) = (info : LockInfo) × (info.key ≡ key)
    × WasAnsweredAt h start (answer.KeyIsLocked info)
IsReadStop loses h start stop.BelowSafePoint = (safe : ℕ) × (start < safe)
    × WasAnsweredAt h start (answer.BelowSafePoint safe)
IsReadStop loses h start stop.Lost = loses start
IsReadStop loses h start (stop.Refused f) = f ≡ fault.OutOfMemory
IsReadStop loses h start (stop.Conflict key) = ⊥
IsReadStop loses h start stop.RolledBack = ⊥
IsReadStop loses h start (stop.AlreadyExists key) = ⊥

-- where a lock stands in the way of a read of a key, that key is told
abbrev pub NamesKey : Key → Stop → Type 0
NamesKey key (stop.Waits told why) = told ≡ key
NamesKey key _ = Unit {0}

-- why nothing is entered of a key: it would be one too many, or memory was refused
abbrev pub IsEntryStop : Bool → Stop → Type 0
IsEntryStop full s = ((s ≡ stop.Refused fault.TooManyKeys) × (full ≡ true))
    ⊎ ((s ≡ stop.Refused fault.OutOfMemory) × (full ≡ false))
