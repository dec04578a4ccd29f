-- All so far that ended were added, and what there was is there.
use Rattle.std.proofs.Common.{◌≡◌, ℕ, ◌<◌, Contains, Some, true}
use Rattle.tx_recording.specs.declared.recording.RecordedOutcome.TheVariants.{Ok}
use Rattle.tx_recording.specs.Recordings.{transaction_at}
use Rattle.tx_clock.specs.declared.clock.ClockEvent.{ClockEvent}
use Rattle.tx_clock.proofs.clock.add_ends.Given as goal

abbrev pub invariant-loop-txn : goal.invariant-loop-txn
invariant-loop-txn l = record {
  kept : (e : ClockEvent) → Contains l.fn.events.items e → Contains l.events.items e;
  has : (t e : ℕ) → t < l.txn → (transaction_at l.recording t).outcome ≡ Ok
      → (transaction_at l.recording t).ended ≡ Some e
      → Contains l.events.items record { time = e; txn = t; ends = true };
}
