-- One step more.
use Rattle.std.proofs.Common.{Some, None}
use Rattle.std.proofs.lemmas.List.Elements.{Contains-get_or}
use Rattle.tx_verdict.specs.declared.verdict.EdgeKind.TheVariants.{Ww}
use Rattle.tx_verdict.specs.Steps.{step_at}
use Rattle.tx_verdict.proofs.CycleSteps.{if_step, steps_more}
use Rattle.tx_verdict.proofs.stale_read.with_stale_read.Goals as goal

pub told_step-requires-clause-step : goal.told_step-requires-clause-step
told_step-requires-clause-step c =
    c.requires.steps (step_at c.args.steps.now c.loop-i.i)
    (Contains-get_or c.args.steps.now c.loop-i.i record { from = 0; edge = Ww; key = None; to = 0 }
    c.loop-i-test.true)

pub loop-i-preserved : goal.loop-i-preserved
loop-i-preserved c =
    let r = c.args.case.now.recording.now in
    steps_more r c.args.case.now.question.orders c.loop-i.told.items c.push_step.new.steps.items (Some
    c.in_ok-step.step)
    c.loop-i.invariant (if_step r c.args.case.now.question.orders (Some c.in_ok-step.step) c.in_ok-step.ensures)
    c.in_ok-push_step.ensures.kept
