use Rattle.std.proofs.Common.{inl, inr}
use Rattle.tx_plan.specs.declared.answer.Answer.TheVariants.{Committed}
use Rattle.tx_plan.proofs.Orders.{not_below}
use Rattle.tx_plan.proofs.LockCommits.{refused_commit, not_refused, commit_applies}
use Rattle.tx_plan.proofs.plan.commit.plan_commit.Goals as goal

pub returns-in-Some-commit_refusal-clause-answers : goal.returns-in-Some-commit_refusal-clause-answers
returns-in-Some-commit_refusal-clause-answers c cells shows =
    let b = c.args.body.now in
    let own = c.in-Some.ensures cells b.commit shows in
    let refuses = c.in-Some-commit_refusal.ensures cells shows own in
    rw c.given-in-Some-commit_refusal.ensures
    (inr (
      not_below b.start c.args.collected c.if-lt.ensures,
      inl (own.lock, own.stands, refuses.decides (Committed b.commit)),
    ))

pub returns-in-Some-commit_refusal-clause-leaves : goal.returns-in-Some-commit_refusal-clause-leaves
returns-in-Some-commit_refusal-clause-leaves c cells shows =
    let b = c.args.body.now in
    let own = c.in-Some.ensures cells b.commit shows in
    let refuses = c.in-Some-commit_refusal.ensures cells shows own in
    rw c.given-in-Some-commit_refusal.ensures (refused_commit cells b c.in-Some-commit_refusal.refusal refuses.refusal)

pub returns-in-None-clause-answers : goal.returns-in-None-clause-answers
returns-in-None-clause-answers c cells shows =
    let b = c.args.body.now in
    let own = c.in-Some.ensures cells b.commit shows in
    let may = c.in-None.ensures cells shows own in
    rw c.changes.ensures (inr (
      not_below b.start c.args.collected c.if-lt.ensures,
      inl (own.lock, own.stands, not_refused cells b.start b.commit c.in-Some.lock own may (Committed b.commit)),
    ))

pub returns-in-None-clause-applies : goal.returns-in-None-clause-applies
returns-in-None-clause-applies c cells shows =
    let b = c.args.body.now in
    let own = c.in-Some.ensures cells b.commit shows in
    let may = c.in-None.ensures cells shows own in
    rw (
      c.changes.ensures,
      c.commit_lock.ensures cells b.start shows,
    ) (commit_applies cells b.start b.commit c.in-Some.lock own may)
