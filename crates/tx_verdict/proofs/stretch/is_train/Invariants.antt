-- Those so far are carried on.
use Rattle.std.proofs.Common.{ℕ, ◌<◌, ◌≤◌}
use Rattle.tx_verdict.proofs.Trains.{IsCarried}
use Rattle.tx_verdict.proofs.stretch.is_train.Given as goal

abbrev pub invariant-loop-i : goal.invariant-loop-i
invariant-loop-i l = (i : ℕ) → l.from ≤ i → i < l.i
    → IsCarried l.case.recording.now l.key l.writers l.from l.other i
