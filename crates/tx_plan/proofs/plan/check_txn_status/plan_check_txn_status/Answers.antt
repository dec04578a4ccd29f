use Rattle.std.proofs.Common.{inl, inr, refl}
use Rattle.tx_plan.proofs.Orders.{not_below, not_true}
use Rattle.tx_plan.proofs.Seen.{no_commit}
use Rattle.tx_plan.proofs.plan.check_txn_status.plan_check_txn_status.Goals as goal
use Rattle.tx_plan.proofs.plan.check_txn_status.plan_check_txn_status.Goals.{then-is_rolled_back-via-then-is_rolled_back, then-is_rolled_back-via-else-is_rolled_back+then-body}

pub returns-in-Some-clause-answers : goal.returns-in-Some-clause-answers
returns-in-Some-clause-answers c cells commit shows =
    let b = c.args.body.now in
    let own = c.in-Some.ensures cells commit shows in
    inr (
      not_below b.start c.args.collected c.if-lt.ensures,
      inr (
        not_below c.args.loaded b.caller c.if-lt-2.ensures,
        inl (own.lock, own.stands, c.check_lock.ensures.answers cells commit shows own),
      ),
    )

pub returns-then-is_rolled_back-clause-answers : goal.returns-then-is_rolled_back-clause-answers
returns-then-is_rolled_back-clause-answers c cells commit shows =
    let b = c.args.body.now in
    let rolled = c.is_rolled_back.ensures cells commit shows in
    rw c.changes.ensures (inr (
      not_below b.start c.args.collected c.if-lt.ensures,
      inr (
        not_below c.args.loaded b.caller c.if-lt-2.ensures,
        inr (
          c.in_default.ensures cells commit shows,
          inr (
            no_commit cells b.start commit c.args.view.now shows c.in_default-own_commit.is,
            elim c.then-is_rolled_back.branch [
              | then-is_rolled_back-via-then-is_rolled_back w ↦ inl (rolled.0 w.if-is_rolled_back.true, refl)
              | then-is_rolled_back-via-else-is_rolled_back+then-body w ↦
                  inr (
                    λ own. not_true c.is_rolled_back.result w.if-is_rolled_back.false (rolled.1 own),
                    inl (w.if-body.true, refl),
                  )
            ],
          ),
        ),
      ),
    ))
