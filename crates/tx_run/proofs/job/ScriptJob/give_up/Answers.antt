use Rattle.std.proofs.Common.{ℕ, ap, subst}
use Rattle.tx_client.specs.Calls.{Seated}
use Rattle.tx_run.specs.Jobs.{JobGoesOn, Working, with_line}
use Rattle.tx_run.specs.Played.{StopsSo}
use Rattle.tx_run.specs.Transfers.{HearsMore}
use Rattle.tx_run.proofs.AnsweredLines.{heard_goes, may_heard}
use Rattle.tx_run.proofs.Leads.{ends_stopped}
use Rattle.tx_run.proofs.job.ScriptJob.give_up.Goals as goal

pub stop-requires-clause-may : goal.stop-requires-clause-may
stop-requires-clause-may g c =
    let heard = c.hear.new.self in
    may_heard c.args.self.now heard heard.log.told c.into_parts-session.result.1 c.hear.ensures.job c.requires.may

pub returns-clause-goes : goal.returns-clause-goes
returns-clause-goes g c =
    let old = c.args.self.now in
    let heard = c.hear.new.self in
    let new = c.stop.new.self in
    subst (λ (n : ℕ). JobGoesOn (with_line n old) new) c.into_parts-session.ensures.number
    (heard_goes old heard heard.log.told c.into_parts-session.result.1 c.hear.ensures.job new c.stop.ensures.goes)

pub returns-clause-told : goal.returns-clause-told
returns-clause-told g c p given =
    let bounds = g.J.JournalId.bounds in
    let m = c.args.transfer in
    let old = c.args.self.now.log in
    let mid = c.hear.new.self.log in
    let new = c.stop.new.self in
    let job = c.hear.ensures.job in
    let s = c.hear.new.session in
    let heard = subst (λ (t : Seated). HearsMore bounds t s) c.into_parts-session.ensures.session
    (c.hear.ensures.state, old.told, c.hear.ensures.heard) in
    ends_stopped bounds m p s c.args.plain old mid new.log new.stands
    (subst (λ (n : ℕ). StopsSo bounds s n c.args.plain mid new.log new.stands) c.into_parts-session.ensures.number
    c.stop.ensures.stopped) heard given
    (ap (λ (w : Working). w.log.lost) job) (ap (λ (w : Working). w.log.replies) job)
