-- What a serial execution never has.
use Rattle.std.proofs.Common.{sym, subst}
use Rattle.tx_verdict.specs.declared.question.Level.{Level}
use Rattle.tx_verdict.specs.Steps.{Forbids}
use Rattle.tx_verdict.proofs.steps.forbids.Goals as goal

pub returns-in-Serializable : goal.returns-in-Serializable
returns-in-Serializable c is =
    subst (λ (q : Level). Forbids q c.args.steps.now) (sym c.in-Serializable.is) (c.are_of_two.ensures is)
