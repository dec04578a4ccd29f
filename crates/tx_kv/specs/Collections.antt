-- How far a collection goes, what it made of the regions, and why it is refused.
use Rattle.std.specs.Prelude.{◌≡◌, ◌+◌, ℕ, zero, suc, min, List, length, Option}
use Rattle.tx_types.specs.declared.key.Key.{Key}
use Rattle.tx_types.specs.declared.fault.Fault.{Fault}
use Rattle.tx_types.specs.declared.fault.Fault.TheVariants as fault
use Rattle.tx_plan.specs.declared.answer.Answer.{Answer}
use Rattle.tx_plan.specs.declared.answer.Answer.TheVariants as answer
use Rattle.tx_plan.specs.declared.body.Body.{Body}
use Rattle.tx_plan.specs.declared.body.Body.TheVariants as body
use Rattle.tx_core.specs.Histories.{History, Begins, last}
use Rattle.tx_client.specs.Facts.{WasAnswered}
use Rattle.tx_resolve.specs.declared.collector.Counts.{Counts}
use Rattle.tx_resolve.specs.Collection.{added}
use Rattle.tx_kv.specs.Counters.{safe_upto}

-- A collection goes as far as it is asked to and as it may: by the least timestamp at which a
-- client read as it looked, and by the last one that was drawn by then, in what its seat knew at
-- that moment, which is all that it knew before and maybe more.
pub record GoesAsFar (keep : ℕ) (old new : History) (oldest : Option ℕ) (safe : ℕ) : Type 0 where
  pub looked : History
  pub after : Begins old looked
  pub before : Begins looked new
  pub is : safe ≡ min keep (safe_upto oldest (last looked))

-- so many regions, from the region n on, have raised their safe point to this
abbrev pub AreRaised : History → ℕ → ℕ → ℕ → Type 0
AreRaised h safe zero n = Unit {0}
AreRaised h safe (suc count) n = WasAnswered h (body.RaiseSafe record { region = n; safe = safe }) answer.Raised
    × AreRaised h safe count (suc n)

-- so many regions, from the region n on, have dropped what comes to this sum with what was dropped
-- before
abbrev pub AreDropped : History → ℕ → ℕ → ℕ → Counts → Counts → Type 0
AreDropped h safe zero n before total = total ≡ before
AreDropped h safe (suc count) n before total = (records : ℕ) × (values : ℕ)
    × WasAnswered h (body.Collect record { region = n; safe = safe }) (answer.Collected records values)
    × AreDropped h safe count (suc n) (added before (record { records = records; values = values })) total

-- each region has raised its safe point to this, and what they dropped comes to this sum
abbrev pub HasCollected : List Key → History → ℕ → Counts → Type 0
HasCollected bounds h safe dropped = AreRaised h safe (length bounds + 1) 0
    × AreDropped h safe (length bounds + 1) 0 (record { records = 0; values = 0 }) dropped

-- some region answered so
abbrev pub WasTold : History → Answer → Type 0
WasTold h a = (b : Body) × WasAnswered h b a

-- why a collection is refused: a region told of a safe point that lies above, of a last number that
-- lies below, or of a lock that remains; or memory was refused
abbrev pub IsCollectFault : History → Fault → Type 0
IsCollectFault h (fault.BelowSafePoint safe) = WasTold h (answer.BelowSafePoint safe)
IsCollectFault h (fault.FutureTimestamp last) = WasTold h (answer.FutureTimestamp last)
IsCollectFault h (fault.LocksRemain info) = WasTold h (answer.LocksRemain info)
IsCollectFault h fault.OutOfMemory = Unit {0}
IsCollectFault h _ = ⊥
