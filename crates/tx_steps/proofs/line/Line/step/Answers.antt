use Rattle.tx_steps.specs.Lines.{data_of}
use Rattle.tx_steps.specs.Steps.{asked}
use Rattle.tx_steps.proofs.Apart.{is_apart}
use Rattle.tx_steps.proofs.line.Line.step.Goals as goal

pub returns-then-put_step-clause-apart : goal.returns-then-put_step-clause-apart
returns-then-put_step-clause-apart c =
    is_apart c.args.program (data_of c.args.self.now) (asked c.put_step.new.out) c.if-put_step.ensures
