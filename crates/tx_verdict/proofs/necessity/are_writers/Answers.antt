-- One writer more.
use Rattle.std.proofs.Common.{ℕ, length, arith, ap, sym, ◌∙◌, subst, slice_index}
use Rattle.tx_recording.specs.Explanations.{PutsIn}
use Rattle.tx_verdict.specs.Reasons.{HasWritten}
use Rattle.tx_history.specs.Records.{writers_of}
use Rattle.tx_views.proofs.ReadViews.{below_next}
use Rattle.tx_verdict.proofs.necessity.are_writers.Goals as goal

pub loop-i-preserved : goal.loop-i-preserved
loop-i-preserved c =
    let r = c.args.recording.now in
    let ws = c.writers_of-writers.result.now in
    let i = c.loop-i.i in
    let w = slice_index ws i in
    let live = sym c.is_live.ensures ∙ c.if-not-is_live.false in
    let put = subst (λ os. (v : ℕ) × PutsIn os c.args.key v) c.ops_of.ensures.are
    (c.puts.ensures c.if-not-puts.false) in
    below_next (λ q. HasWritten r (slice_index (writers_of c.args.versions.now.recorded c.args.chain) q) c.args.key) i
    c.loop-i.invariant
    (subst (λ z. HasWritten r (slice_index z i) c.args.key) c.writers_of-writers.ensures
    (c.requires.known w live, put))

pub returns : goal.returns
returns c _ i lt = c.loop-i.invariant i
    (let end = c.loop-i-test.false in let n = ap length c.writers_of-writers.ensures in omega (arith, end, n, lt))
