-- What was seen so far is what was read.
use Rattle.std.proofs.Common.{ℕ, ◌<◌, get_or}
use Rattle.tx_verdict.specs.Versions.{IsViewFit, no_view}
use Rattle.tx_verdict.proofs.fit.are_views_fit.Given as goal

abbrev pub invariant-loop-i : goal.invariant-loop-i
invariant-loop-i l = (i : ℕ) → i < l.i → IsViewFit l.recording l.versions (get_or l.views i no_view)
