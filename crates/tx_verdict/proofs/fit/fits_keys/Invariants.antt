-- Those of the keys so far are what their writers make of them.
use Rattle.std.proofs.Common.{ℕ, ◌<◌}
use Rattle.tx_verdict.specs.Versions.{IsKeyFit}
use Rattle.tx_verdict.proofs.fit.fits_keys.Given as goal

abbrev pub invariant-loop-key : goal.invariant-loop-key
invariant-loop-key l = (k : ℕ) → k < l.key → IsKeyFit l.recording l.versions k
