use Rattle.std.proofs.Common.{reverse, take, sym, subst}
use Rattle.tx_machine.specs.declared.step.Step.{Step}
use Rattle.tx_machine.specs.Machine.{Admits, table_of}
use Rattle.tx_machine.proofs.Runs.{admitted, err_of}
use Rattle.tx_machine.proofs.trace.check_steps.Goals as goal

pub returns-in-Err-clause-refused : goal.returns-in-Err-clause-refused
returns-in-Err-clause-refused c is_step run =
    let a = admitted c.args.steps.now c.loop-step.step-index c.step-item.result c.loop-step-test.true run in
    c.in-Err.ensures.refused (err_of _ _ is_step) (table_of (reverse (take c.loop-step.step-index c.args.steps.now)))
    c.loop-step.invariant.stands
    (subst (λ (s : Step). Admits (table_of (reverse (take c.loop-step.step-index c.args.steps.now))) s)
    (sym c.step-item.is) a)
