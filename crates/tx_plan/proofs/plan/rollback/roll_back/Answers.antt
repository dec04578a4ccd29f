use Rattle.std.proofs.Common.{None, cond, sym, ap, subst, ◌∙◌}
use Rattle.tx_plan.specs.Changes.{IsRemoved}
use Rattle.tx_plan.proofs.OwnLocks.{lock_left, removed}
use Rattle.tx_plan.proofs.plan.rollback.roll_back.Goals as goal

pub returns-clause-leaves : goal.returns-clause-leaves
returns-clause-leaves c cells commit shows =
    let lock = ap (λ b. cond b None cells.lock) c.is_some.ensures
    ∙ lock_left cells.lock c.args.start c.own_lock.result (c.own_lock.ensures cells commit shows) in
    c.rolls.ensures.leaves cells
    ∙ (λ i. record { lock = lock i; write = c.left_of.ensures.writes cells commit shows i })

pub returns-clause-applies : goal.returns-clause-applies
returns-clause-applies c cells commit shows =
    c.rolls.ensures.applies cells (
      subst (IsRemoved cells.lock c.args.start) (sym c.is_some.ensures)
          (removed cells.lock c.args.start c.own_lock.result (c.own_lock.ensures cells commit shows)),
      c.left_of.ensures.is cells commit shows,
    )

pub returns-clause-makes : goal.returns-clause-makes
returns-clause-makes c cells commit shows = c.rolls.ensures.makes cells (c.left_of.ensures.new cells commit shows)
