-- One step more.
use Rattle.tx_verdict.proofs.CycleSteps.{if_step, steps_more}
use Rattle.tx_verdict.proofs.steps.add_step.Goals as goal

pub returns-in_ok-push_step-in-Ww : goal.returns-in_ok-push_step-in-Ww
returns-in_ok-push_step-in-Ww c =
    steps_more c.args.recording.now c.args.question.orders c.args.steps.now.items c.push_step.new.steps.items
    c.step_of-step.result c.requires.steps
    (if_step c.args.recording.now c.args.question.orders c.step_of-step.result c.step_of-step.ensures)
    c.in_ok-push_step-in-Ww.ensures.kept
