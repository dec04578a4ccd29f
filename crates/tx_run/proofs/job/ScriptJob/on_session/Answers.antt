use Rattle.std.proofs.Common.{◌≡◌, ℕ, sym, ap, subst, ◌∙◌}
use Rattle.tx_transaction.specs.Sessions.{SessionState, begun}
use Rattle.tx_steps.specs.declared.transfer.Transfer.{Transfer}
use Rattle.tx_steps.specs.Steps.{Text}
use Rattle.tx_transfer.specs.TransferSteps.{Moving}
use Rattle.tx_transfer.specs.declared.progress.TransferProgress.TheVariants as progress
use Rattle.tx_run.specs.Jobs.{JobGoesOn, Working, with_line}
use Rattle.tx_run.specs.Played.{EndsTransfer, moving}
use Rattle.tx_run.proofs.AnsweredLines.{heard_goes, may_heard}
use Rattle.tx_run.proofs.Leads.{leads_moving, leads_over, says_transfer}
use Rattle.tx_run.proofs.job.ScriptJob.on_session.Goals as goal

pub new-requires : goal.new-requires
new-requires g c = subst (λ (s : SessionState). s ≡ begun s.start) (sym c.hear.ensures.state) c.requires.begun

pub go_on-requires-clause-may : goal.go_on-requires-clause-may
go_on-requires-clause-may g c =
    let heard = c.hear.new.self in
    may_heard c.args.self.now heard heard.log.told c.args.order.number c.hear.ensures.job c.requires.may

pub give_up-requires-clause-may : goal.give_up-requires-clause-may
give_up-requires-clause-may g c =
    let heard = c.hear.new.self in
    may_heard c.args.self.now heard heard.log.told c.args.order.number c.hear.ensures.job c.requires.may

pub returns-in-Ok-clause-goes : goal.returns-in-Ok-clause-goes
returns-in-Ok-clause-goes g c =
    let heard = c.hear.new.self in
    heard_goes c.args.self.now heard heard.log.told c.args.order.number c.hear.ensures.job c.go_on.new.self
    c.go_on.ensures.goes

pub returns-in-Err-clause-goes : goal.returns-in-Err-clause-goes
returns-in-Err-clause-goes g c =
    let heard = c.hear.new.self in
    let new = c.give_up.new.self in
    heard_goes c.args.self.now heard heard.log.told c.args.order.number c.hear.ensures.job new
    (subst (λ (n : ℕ). JobGoesOn (with_line n heard) new)
    (ap (λ (m : Moving). m.number) (c.in-Err.ensures.value_returned ∙ c.new.ensures))
    c.give_up.ensures.goes)

pub returns-in-Ok-clause-plays : goal.returns-in-Ok-clause-plays
returns-in-Ok-clause-plays g c known k from =
    let source = g.L.Source.text in
    let order = c.args.order in
    let what : Transfer Text =
    record { from = order.from; to = order.to; amount = order.amount; mode = order.mode } in
    let old = c.args.self.now.log in
    let now = c.hear.new.session in
    let new = c.go_on.new.self in
    let set = c.go_on.ensures.set in
    let job = c.hear.ensures.job in
    leads_moving g.J.JournalId.bounds source k what order.number c.args.session now old new.log new.stands
    (says_transfer source order.number what order.said known) from
    (c.hear.ensures.state, old.told, c.hear.ensures.heard)
    (ap (λ (w : Working). w.stands) set ∙ ap moving (c.in-Ok.ensures.ok ∙ c.new.ensures))
    (ap (λ (w : Working). w.log.lost) set ∙ ap (λ (w : Working). w.log.lost) job)
    (ap (λ (w : Working). w.log.replies) set ∙ ap (λ (w : Working). w.log.replies) job)

pub returns-in-Err-clause-plays : goal.returns-in-Err-clause-plays
returns-in-Err-clause-plays g c known k from =
    let bounds = g.J.JournalId.bounds in
    let source = g.L.Source.text in
    let order = c.args.order in
    let what : Transfer Text =
    record { from = order.from; to = order.to; amount = order.amount; mode = order.mode } in
    let old = c.args.self.now.log in
    let mid = c.hear.new.self.log in
    let now = c.hear.new.session in
    let new = c.give_up.new.self in
    let job = c.hear.ensures.job in
    leads_over bounds source k what order.number c.args.session now old mid new.log new.stands
    (says_transfer source order.number what order.said known) from
    (c.hear.ensures.state, old.told, c.hear.ensures.heard)
    (ap (λ (w : Working). w.log.lost) job) (ap (λ (w : Working). w.log.replies) job)
    (subst (λ (m : Moving). EndsTransfer bounds m progress.OutOfMemory mid new.log new.stands)
    (c.in-Err.ensures.value_returned ∙ c.new.ensures)
    (c.give_up.ensures.told progress.OutOfMemory c.new-in-Err.ensures))
