use Rattle.std.proofs.Common.{Some, sym, subst, ◌∙◌}
use Rattle.tx_core.specs.declared.event.Event.TheVariants.{Drawn}
use Rattle.tx_network.specs.Networks.{GoesOnWith}
use Rattle.tx_network.proofs.Traces.{went_well}
use Rattle.tx_network.proofs.network.trace.note_drawn.Goals as goal

pub returns-else-is_err : goal.returns-else-is_err
returns-else-is_err c =
    let adds = went_well c.drew.result _ c.drew.ensures.ok (sym c.is_err.ensures.value ∙ c.if-is_err.false) in
    λ seat. subst (λ o. GoesOnWith o (Drawn seat c.args.ts) (Some c.drew.new.self)) (sym c.in-Some.is) (adds seat)
