-- One operation more.
use Rattle.std.proofs.Common.{ℕ, get_or, arith}
use Rattle.tx_recording.specs.Recordings.{no_op}
use Rattle.tx_recording.specs.Explanations.{Puts}
use Rattle.tx_views.proofs.ReadViews.{below_next}
use Rattle.tx_verdict.specs.Versions.{IsPlaced}
use Rattle.tx_verdict.proofs.Small.{placed_all}
use Rattle.tx_verdict.proofs.fit.are_ops_placed.Goals as goal

pub loop-i-preserved : goal.loop-i-preserved
loop-i-preserved c i w lt put =
    let os = c.args.ops.now in
    let P : ℕ → Type 0 = λ q. (u : ℕ) → Puts (get_or os q no_op).act u
    → IsPlaced c.args.versions.now c.args.txn (get_or os q no_op).key in
    below_next P c.loop-i.i (λ q low u also. c.loop-i.invariant q u low also)
    (c.is_op_placed.ensures c.if-not-is_op_placed.false) i lt w put

pub returns : goal.returns
returns c _ = placed_all c.args.versions.now c.args.txn c.args.ops.now
    (λ i w lt put. c.loop-i.invariant i w (let end = c.loop-i-test.false in omega (arith, end, lt)) put)
