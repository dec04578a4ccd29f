-- What those so far put is part of a version.
use Rattle.std.proofs.Common.{ℕ, ◌<◌, get_or}
use Rattle.tx_recording.specs.Recordings.{no_op}
use Rattle.tx_recording.specs.Explanations.{Puts}
use Rattle.tx_verdict.specs.Versions.{IsPlaced}
use Rattle.tx_verdict.proofs.fit.are_ops_placed.Given as goal

abbrev pub invariant-loop-i : goal.invariant-loop-i
invariant-loop-i l = (i v : ℕ) → i < l.i → Puts (get_or l.ops i no_op).act v
    → IsPlaced l.versions l.txn (get_or l.ops i no_op).key
