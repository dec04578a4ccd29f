-- Those so far are what their writers make of them.
use Rattle.std.proofs.Common.{ℕ, ◌+◌, ◌<◌, slice_index}
use Rattle.tx_history.specs.Records.{writers_of}
use Rattle.tx_verdict.specs.Versions.{IsVersionFit}
use Rattle.tx_verdict.proofs.fit.fits_key.Given as goal

abbrev pub invariant-loop-i : goal.invariant-loop-i
invariant-loop-i l = (i : ℕ) → i < l.i
    → IsVersionFit l.recording l.versions l.key (slice_index (writers_of l.versions.recorded l.key) i) (i + 1)
