-- Those so far are known to have committed, if they are live.
use Rattle.std.proofs.Common.{ℕ, ◌<◌, IsTrue}
use Rattle.tx_verdict.specs.Reasons.{HasCommitted}
use Rattle.tx_verdict.specs.Versions.{live_of}
use Rattle.tx_verdict.proofs.necessity.are_known.Given as goal

abbrev pub invariant-loop-txn : goal.invariant-loop-txn
invariant-loop-txn l = (t : ℕ) → t < l.txn → IsTrue (live_of l.versions t) → HasCommitted l.case.recording.now t
