-- The live ones so far commit right behind their starts.
use Rattle.std.proofs.Common.{◌≡◌, ℕ, ◌+◌, ◌<◌, IsTrue, slice_index}
use Rattle.tx_clock.specs.KeptOrder.{live_in}
use Rattle.tx_verdict.proofs.serial.commit_at_once.Given as goal

abbrev pub invariant-loop-txn : goal.invariant-loop-txn
invariant-loop-txn l = (t : ℕ) → t < l.txn → IsTrue (live_in l.live t)
    → (slice_index l.starters (slice_index l.starts t) ≡ t) × (slice_index l.commits t ≡ slice_index l.starts t + 1)
