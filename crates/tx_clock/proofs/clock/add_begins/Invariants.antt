-- All so far that began were added, and what there was is there.
use Rattle.std.proofs.Common.{◌≡◌, ℕ, ◌<◌, Contains, Some, IsTrue, false}
use Rattle.tx_recording.specs.Recordings.{transaction_at}
use Rattle.tx_clock.specs.declared.clock.ClockEvent.{ClockEvent}
use Rattle.tx_clock.specs.KeptOrder.{live_in}
use Rattle.tx_clock.proofs.clock.add_begins.Given as goal

abbrev pub invariant-loop-txn : goal.invariant-loop-txn
invariant-loop-txn l = (u b : ℕ) → u < l.txn → IsTrue (live_in l.live u) → (transaction_at l.recording u).began ≡ Some b
    → Contains l.events.items record { time = b; txn = u; ends = false }
