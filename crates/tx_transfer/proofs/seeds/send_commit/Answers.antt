use Rattle.std.proofs.Common.{Bool, Err, refl, sym, subst, ◌∙◌}
use Rattle.tx_types.specs.declared.fault.Fault.TheVariants as fault
use Rattle.tx_transfer.specs.Steps.{CommitsIf}
use Rattle.tx_transfer.proofs.seeds.send_commit.Goals as goal

pub returns-then-not-can_commit-clause-commits : goal.returns-then-not-can_commit-clause-commits
returns-then-not-can_commit-clause-commits g c =
    let old = c.args.session.now in
    subst (λ (b : Bool). CommitsIf g.J.JournalId.bounds b old (Err fault.OutOfMemory) old)
    (sym (sym c.can_commit.ensures ∙ c.if-not-can_commit.true)) (refl, refl)

pub returns-then-not-can_commit-clause-keeps : goal.returns-then-not-can_commit-clause-keeps
returns-then-not-can_commit-clause-keeps g c = λ key value just. just

pub returns-clause-commits : goal.returns-clause-commits
returns-clause-commits g c =
    let old = c.args.session.now in
    let new = c.commit-answered.new.session in
    subst (λ (b : Bool). CommitsIf g.J.JournalId.bounds b old c.was_sent.result new)
    (sym (sym c.can_commit.ensures ∙ c.if-not-can_commit.false))
    (c.commit-answered.result, c.was_sent.ensures.is, c.commit-answered.ensures.over)
