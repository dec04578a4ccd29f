use Rattle.std.proofs.Common.{Ok, Result, sym, ap, subst, ◌∙◌}
use Rattle.tx_plan.specs.declared.answer.Answer.{Answer}
use Rattle.tx_core.specs.Histories.{Begins}
use Rattle.tx_core.proofs.seats.Beginnings.{begins_all, begins_more}
use Rattle.tx_transaction.specs.declared.state.Miss.{Miss}
use Rattle.tx_client.specs.Calls.{Seated}
use Rattle.tx_transfer.specs.Totals.{IsPageOf}
use Rattle.tx_transfer.proofs.Totals.{resolved_start, resolved_knows}
use Rattle.tx_transfer.proofs.total.read_page.Goals as goal

pub returns-in_err-to-clause-knows : goal.returns-in_err-to-clause-knows
returns-in_err-to-clause-knows g c = begins_all c.args.session.now.seat.events

pub returns-in-Ok-Rows-clause-page : goal.returns-in-Ok-Rows-clause-page
returns-in-Ok-Rows-clause-page g c =
    subst (λ (r : Result Answer Miss). IsPageOf g.J.JournalId.bounds c.page.new.session.seat.events
    c.args.session.now.state.start c.args.from.now r) (c.in-Ok-Rows.is ∙ ap Ok c.in-Ok-Rows.field-0-is)
    c.page.ensures.page

pub returns-in_err-resolve-in-Ok-KeyIsLocked-clause-start : goal.returns-in_err-resolve-in-Ok-KeyIsLocked-clause-start
returns-in_err-resolve-in-Ok-KeyIsLocked-clause-start g c =
    ap (λ (s : Seated). s.state.start) c.in_err-resolve-in-Ok-KeyIsLocked.ensures.same ∙ c.page.ensures.start

pub returns-in_err-resolve-in-Ok-KeyIsLocked-clause-knows : goal.returns-in_err-resolve-in-Ok-KeyIsLocked-clause-knows
returns-in_err-resolve-in-Ok-KeyIsLocked-clause-knows g c =
    subst (λ (s : Seated). Begins c.args.session.now.seat.events s.seat.events)
    (sym c.in_err-resolve-in-Ok-KeyIsLocked.ensures.same) c.page.ensures.knows

pub returns-in-Ok-KeyIsLocked-clause-start : goal.returns-in-Ok-KeyIsLocked-clause-start
returns-in-Ok-KeyIsLocked-clause-start g c =
    resolved_start g.J.JournalId.bounds c.page.new.session c.resolve.new.session _ _ _ _ _
    c.in_ok-resolve-in-Ok-KeyIsLocked.ensures.ok ∙ c.page.ensures.start

pub returns-in-Ok-KeyIsLocked-clause-knows : goal.returns-in-Ok-KeyIsLocked-clause-knows
returns-in-Ok-KeyIsLocked-clause-knows g c =
    begins_more _ _ _ c.page.ensures.knows
    (resolved_knows g.J.JournalId.bounds c.page.new.session c.resolve.new.session _ _ _ _ _
    c.in_ok-resolve-in-Ok-KeyIsLocked.ensures.ok)
