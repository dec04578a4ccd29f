use Rattle.std.proofs.Common.{refl, sym, subst}
use Rattle.tx_steps.specs.Steps.{acted}
use Rattle.tx_ops.specs.Calls.{Said}
use Rattle.tx_ops.proofs.EditReplies.{does_says}
use Rattle.tx_transfer.specs.Acts.{Acts}
use Rattle.tx_transfer.proofs.LineActs.{IsPlain, acts_alone}
use Rattle.tx_transfer.proofs.operations.act.Goals as goal

pub told-requires : goal.told-requires
told-requires g c =
    does_says IsPlain refl refl refl refl refl refl (λ c. refl) refl g.J.JournalId.bounds c.args.session.now
    c.act.new.session (acted c.args.op) c.act.result c.act.ensures

pub returns-in_default : goal.returns-in_default
returns-in_default g c =
    let bounds = g.J.JournalId.bounds in
    let old = c.args.session.now in
    let new = c.act.new.session in
    let resolver = c.args.context.now.resolver in
    subst (λ (said : Said). Acts bounds (acted c.args.op) old resolver said new resolver) (sym c.told.ensures)
    (acts_alone bounds old new resolver resolver refl c.act.result c.args.op c.in_default.not-Resolve c.act.ensures)
