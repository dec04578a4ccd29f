use Rattle.tx_plan.proofs.plan.rollback.leave_rollback.Goals as goal

pub returns-clause-applies : goal.returns-clause-applies
returns-clause-applies c cells commit shows =
    c.rolls.ensures.applies cells (tt, c.left_of.ensures.is cells commit shows)

pub returns-clause-makes : goal.returns-clause-makes
returns-clause-makes c cells commit shows = c.rolls.ensures.makes cells (c.left_of.ensures.new cells commit shows)
