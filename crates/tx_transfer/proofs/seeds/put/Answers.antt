use Rattle.std.proofs.Common.{inl, inr, subst}
use Rattle.tx_transfer.specs.SeedLines.{seed_terms}
use Rattle.tx_transfer.specs.Steps.{Enters}
use Rattle.tx_transfer.proofs.Steps.{refused_as, declares_or, enters_or}
use Rattle.tx_transfer.proofs.seeds.put.Goals as goal

pub returns-in_err-put-clause-puts : goal.returns-in_err-put-clause-puts
returns-in_err-put-clause-puts g c =
    let old = c.args.session.now in
    let new = c.put.new.self in
    inl (
      c.in_err-put.field-0.0,
      refused_as c.from_residual.result c.in_err-put.field-0.0 c.from_residual.ensures.1,
      subst (λ r. Enters c.args.key c.args.value old r new) c.in_err-put.was
          (enters_or c.args.key c.args.value old new c.put.result c.put.ensures.ok c.put.ensures.same
          c.put.ensures.err),
    )

pub returns-clause-puts : goal.returns-clause-puts
returns-clause-puts g c =
    let old = c.args.session.now in
    let mid = c.put.new.self in
    inr (
      mid,
      subst (λ r. Enters c.args.key c.args.value old r mid) c.in_ok-put.was
          (enters_or c.args.key c.args.value old mid c.put.result c.put.ensures.ok c.put.ensures.same
          c.put.ensures.err),
      declares_or g.J.JournalId.bounds seed_terms mid c.declare.new.self c.declare.result c.declare.ensures.ok
          c.declare.ensures.same c.declare.ensures.err,
    )
