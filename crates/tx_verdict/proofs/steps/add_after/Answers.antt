-- One step more.
use Rattle.tx_verdict.proofs.CycleSteps.{if_step, steps_more}
use Rattle.tx_verdict.proofs.steps.add_after.Goals as goal

pub returns : goal.returns
returns c =
    steps_more c.args.recording.now c.args.question.orders c.args.steps.now.items c.push_step.new.steps.items
    c.step_after-step.result c.requires.steps
    (if_step c.args.recording.now c.args.question.orders c.step_after-step.result c.step_after-step.ensures)
    c.in_ok-push_step.ensures.kept
