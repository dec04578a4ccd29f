use Rattle.std.proofs.Common.{◌≡◌, Some, sym, subst, ◌∙◌}
use Rattle.tx_core.specs.declared.event.Event.TheVariants.{Took}
use Rattle.tx_trace.specs.Takings.{MayGoOn}
use Rattle.tx_trace.proofs.Histories.{went_well}
use Rattle.tx_trace.proofs.taken_log.note_took.Goals as goal

pub returns-else-is_err : goal.returns-else-is_err
returns-else-is_err c =
    let goes = went_well c.took.result _ c.took.ensures.ok (sym c.is_err.ensures.value ∙ c.if-is_err.false) in
    λ x same said. subst (λ o. MayGoOn o (Took x) (Some c.took.new.self)) (sym c.in-Some.is) (goes x same said)
