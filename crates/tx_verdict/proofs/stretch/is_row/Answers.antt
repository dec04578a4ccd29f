-- One more.
use Rattle.std.proofs.Common.{arith, slice_index}
use Rattle.std.proofs.lemmas.Grind.{common_steps}
use Rattle.tx_views.proofs.ReadViews.{below_next}
use Rattle.tx_verdict.specs.Reasons.{HasWritten, IsBased}
use Rattle.tx_verdict.proofs.stretch.is_row.Goals as goal

pub loop-i-preserved : goal.loop-i-preserved
loop-i-preserved c =
    let r = c.args.case.now.recording.now in
    let ws = c.args.writers.now in
    below_next (λ q. HasWritten r (slice_index ws q) c.args.key × IsBased r c.args.key ws q) c.loop-i.i
    c.loop-i.invariant
    (c.has_written.ensures c.if-not-has_written.false, c.in_ok-is_based.ensures c.if-not-branch.false)

pub returns : goal.returns
returns c _ i lt = c.loop-i.invariant i (grind (arith, common_steps, c.loop-i-test.false, lt))
