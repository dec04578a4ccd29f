use Rattle.std.proofs.Common.{inl, inr, ap, subst}
use Rattle.tx_plan.specs.declared.answer.Answer.TheVariants.{Resolved}
use Rattle.tx_plan.specs.LockCommit.{commit_in}
use Rattle.tx_plan.specs.Views.{Shows}
use Rattle.tx_plan.proofs.Orders.{not_below}
use Rattle.tx_plan.proofs.LockCommits.{resolves, refused_resolve, not_refused, commit_applies}
use Rattle.tx_plan.proofs.plan.resolve_lock.plan_resolve_lock.Goals as goal

pub returns-in-Some-commit_refusal-clause-answers : goal.returns-in-Some-commit_refusal-clause-answers
returns-in-Some-commit_refusal-clause-answers c cells shows =
    let b = c.args.body.now in
    let here = subst (λ n. Shows cells b.start n c.args.view.now) (ap commit_in c.in-Committed.is) shows in
    let own = c.in-Some.ensures cells (commit_in b.fate) shows in
    let refuses = c.in-Some-commit_refusal.ensures cells here own in
    rw c.given-in-Some-commit_refusal.ensures
    (inr (
      not_below b.start c.args.collected c.if-lt.ensures,
      inl (
        own.lock,
        own.stands,
        resolves cells.write b.start c.in-Committed.commit own.lock b.fate c.in-Some-commit_refusal.refusal
            c.in-Committed.is (refuses.decides Resolved),
      ),
    ))

pub returns-in-Some-commit_refusal-clause-leaves : goal.returns-in-Some-commit_refusal-clause-leaves
returns-in-Some-commit_refusal-clause-leaves c cells shows =
    let b = c.args.body.now in
    let here = subst (λ n. Shows cells b.start n c.args.view.now) (ap commit_in c.in-Committed.is) shows in
    let own = c.in-Some.ensures cells (commit_in b.fate) shows in
    let refuses = c.in-Some-commit_refusal.ensures cells here own in
    rw c.given-in-Some-commit_refusal.ensures (refused_resolve cells b c.in-Some-commit_refusal.refusal refuses.refusal)

pub returns-in-None-clause-answers : goal.returns-in-None-clause-answers
returns-in-None-clause-answers c cells shows =
    let b = c.args.body.now in
    let here = subst (λ n. Shows cells b.start n c.args.view.now) (ap commit_in c.in-Committed.is) shows in
    let own = c.in-Some.ensures cells (commit_in b.fate) shows in
    let may = c.in-None.ensures cells here own in
    rw c.changes-in-None.ensures
    (inr (
      not_below b.start c.args.collected c.if-lt.ensures,
      inl (
        own.lock,
        own.stands,
        resolves cells.write b.start c.in-Committed.commit own.lock b.fate Resolved c.in-Committed.is
            (not_refused cells b.start c.in-Committed.commit c.in-Some.lock own may Resolved),
      ),
    ))

pub returns-in-None-clause-applies : goal.returns-in-None-clause-applies
returns-in-None-clause-applies c cells shows =
    let b = c.args.body.now in
    let here = subst (λ n. Shows cells b.start n c.args.view.now) (ap commit_in c.in-Committed.is) shows in
    let own = c.in-Some.ensures cells (commit_in b.fate) shows in
    let may = c.in-None.ensures cells here own in
    rw (
      c.changes-in-None.ensures,
      c.commit_lock.ensures cells b.start here,
    )
    (commit_applies cells b.start c.in-Committed.commit c.in-Some.lock own may)
