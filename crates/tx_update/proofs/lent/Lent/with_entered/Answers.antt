use Rattle.std.proofs.Common.{List, Some, refl, subst}
use Rattle.tx_types.specs.declared.mutation.Change.{Change}
use Rattle.tx_update.specs.Ranges.{AreEntered, is_in_range}
use Rattle.tx_update.proofs.Ranges.{entered_found}
use Rattle.tx_update.proofs.lent.Lent.with_entered.Goals as goal

pub returns-clause-finds : goal.returns-clause-finds
returns-clause-finds g c =
    let now = c.args.self.now.running in
    let range = c.args.range.now in
    let old = c.args.rows.items in
    let new = c.enter_over.new.rows.items in
    entered_found now.state.buffer now.seat.events g.B.Begun.session.state.start (Some range.from) range.to range.from
    range.to refl refl c.in_ok-changes.changes c.in_ok-changes.ensures.ok old new c.requires.beneath
    (subst (λ (cs : List Change). AreEntered (is_in_range (Some range.from) range.to) cs old new) c.as_slice.ensures
    c.in_ok-enter_over.ensures.entered)
