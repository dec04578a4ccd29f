use Rattle.tx_check.proofs.Told.{told, never_none}
use Rattle.tx_check.proofs.explanation.put_why.Goals as goal

pub returns-in-Ok-Some : goal.returns-in-Ok-Some
returns-in-Ok-Some c =
    let is = rw c.in-Ok-Some.field-0-is at c.in-Ok-Some.ensures.ok in
    λ lines at. (
      c.in-Ok-Some.why,
      told lines c.args.number c.args.machine.now c.args.step.now c.in-Ok-Some.why is at,
      c.in_ok-put_both-in-Ok-Some.ensures,
    )

pub returns-in-Ok-None : goal.returns-in-Ok-None
returns-in-Ok-None c =
    let is = rw c.in-Ok-None.field-0-is at c.in-Ok-None.ensures.ok in
    λ lines at. absurd (never_none lines c.args.number c.args.machine.now c.args.step.now is at)
