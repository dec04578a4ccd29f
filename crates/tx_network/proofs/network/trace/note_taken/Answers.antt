use Rattle.std.proofs.Common.{Some, sym, subst, ◌∙◌}
use Rattle.tx_core.specs.declared.event.Event.TheVariants.{Took}
use Rattle.tx_network.specs.Networks.{GoesOnWith}
use Rattle.tx_network.proofs.Traces.{went_well}
use Rattle.tx_network.proofs.network.trace.note_taken.Goals as goal

pub returns-else-is_err : goal.returns-else-is_err
returns-else-is_err c =
    let adds = went_well c.took.result _ c.took.ensures.ok (sym c.is_err.ensures.value ∙ c.if-is_err.false) in
    λ x body answer. subst (λ o. GoesOnWith o (Took x) (Some c.took.new.self)) (sym c.in-Some.is) (adds x body answer)
