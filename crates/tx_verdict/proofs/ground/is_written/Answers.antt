-- By an order that is known, or by the recording.
use Rattle.std.proofs.Common.{inl, inr}
use Rattle.tx_verdict.specs.declared.verdict.EdgeKind.TheVariants.{Ww}
use Rattle.tx_verdict.proofs.Direct.{order_with, step_with}
use Rattle.tx_verdict.proofs.ground.is_written.Goals as goal

pub returns-in-Known : goal.returns-in-Known
returns-in-Known c is = inr (order_with c.args.case.now.recording.now c.args.known.now c.args.step Ww c.in-Some.key
    c.in-Some.ensures
    (c.in_ok-is.ensures is))

pub returns : goal.returns
returns c is = inl (step_with c.args.case.now.recording.now c.args.case.now.question.orders c.args.step Ww
    c.in-Some.key c.in-Some.ensures (
      c.has_written.ensures c.if-not-has_written.false,
      c.has_written-2.ensures c.if-not-has_written-2.false,
      c.in_ok-is-2.ensures is,
    ))
