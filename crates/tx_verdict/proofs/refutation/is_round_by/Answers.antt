-- One step more.
use Rattle.std.proofs.Common.{arith, None}
use Rattle.std.proofs.lemmas.Grind.{common_steps}
use Rattle.tx_views.proofs.ReadViews.{below_next}
use Rattle.tx_verdict.specs.declared.verdict.EdgeKind.TheVariants.{Ww}
use Rattle.tx_verdict.specs.Steps.{step_at}
use Rattle.tx_verdict.specs.Refutations.{IsStepBy}
use Rattle.tx_verdict.proofs.Small.{by_place}
use Rattle.tx_verdict.proofs.refutation.is_round_by.Goals as goal

pub loop-i-preserved : goal.loop-i-preserved
loop-i-preserved c =
    let steps = c.args.steps.now in
    below_next (λ q. IsStepBy c.args.case.now.recording.now c.args.case.now.question.orders c.args.known.now
    (step_at steps q)) c.loop-i.i
    c.loop-i.invariant (c.in_ok-is_step_by.ensures c.if-not-branch.false)

pub returns : goal.returns
returns c _ = (
  c.is_round.ensures c.if-not-is_round.false,
  c.forbids.ensures c.if-not-forbids.false,
  by_place (IsStepBy c.args.case.now.recording.now c.args.case.now.question.orders c.args.known.now) c.args.steps.now
      record { from = 0; edge = Ww; key = None; to = 0 }
      (λ i lt. c.loop-i.invariant i (grind (arith, common_steps, c.loop-i-test.false, lt))),
)
