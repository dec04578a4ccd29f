-- Those so far follow one another.
use Rattle.std.proofs.Common.{ℕ, ◌<◌, slice_index}
use Rattle.tx_verdict.specs.Reasons.{HasWritten, IsBased}
use Rattle.tx_verdict.proofs.stretch.is_row.Given as goal

abbrev pub invariant-loop-i : goal.invariant-loop-i
invariant-loop-i l = (i : ℕ) → i < l.i
    → HasWritten l.case.recording.now (slice_index l.writers i) l.key × IsBased l.case.recording.now l.key l.writers i
