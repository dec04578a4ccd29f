-- Those so far put into the key, and committed.
use Rattle.std.proofs.Common.{ℕ, ◌<◌, slice_index}
use Rattle.tx_verdict.specs.Reasons.{HasWritten}
use Rattle.tx_history.specs.Records.{writers_of}
use Rattle.tx_verdict.proofs.necessity.are_writers.Given as goal

abbrev pub invariant-loop-i : goal.invariant-loop-i
invariant-loop-i l = (i : ℕ) → i < l.i
    → HasWritten l.recording (slice_index (writers_of l.versions.recorded l.chain) i) l.key
