-- One version more.
use Rattle.std.proofs.Common.{ℕ, ◌+◌, length, arith, ap, subst, slice_index}
use Rattle.tx_history.specs.Records.{writers_of}
use Rattle.tx_views.proofs.ReadViews.{below_next}
use Rattle.tx_verdict.specs.Versions.{IsVersionFit}
use Rattle.tx_verdict.proofs.fit.fits_key.Goals as goal

pub loop-i-preserved : goal.loop-i-preserved
loop-i-preserved c =
    let r = c.args.recording.now in
    let v = c.args.versions.now in
    let k = c.args.key in
    let i = c.loop-i.i in
    let P : ℕ → Type 0 = λ q. IsVersionFit r v k (slice_index (writers_of v.recorded k) q) (q + 1) in
    let last = c.in_ok-fits_version.ensures c.if-not-branch.false in
    below_next P i c.loop-i.invariant
    (subst (λ ws. IsVersionFit r v k (slice_index ws i) (i + 1)) c.writers_of-writers.ensures last)

pub returns : goal.returns
returns c _ i lt = c.loop-i.invariant i (let end = c.loop-i-test.false in let n =
    ap length c.writers_of-writers.ensures in omega (arith, end, n, lt))
