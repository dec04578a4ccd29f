-- What the transactions so far put is part of a version.
use Rattle.std.proofs.Common.{ℕ, ◌<◌, IsTrue}
use Rattle.tx_recording.specs.Explanations.{IsPut}
use Rattle.tx_verdict.specs.Versions.{IsPlaced, live_of}
use Rattle.tx_verdict.proofs.fit.are_placed.Given as goal

abbrev pub invariant-loop-txn : goal.invariant-loop-txn
invariant-loop-txn l = (t k v : ℕ) → t < l.txn → IsTrue (live_of l.versions t) → IsPut l.recording t k v
    → IsPlaced l.versions t k
