use Rattle.std.proofs.Common.{◌≡◌, true, false, subst}
use Rattle.std.specs.Prelude.{is_some}
use Rattle.tx_run.specs.Jobs.{JobGoesOn, Working}
use Rattle.tx_run.specs.Played.{Leads, is_away}
use Rattle.tx_run.proofs.AnsweredLines.{both_lead}
use Rattle.tx_run.proofs.job.ScriptJobJob.step.Goals as goal

pub returns-else-is_done-clause-leads : goal.returns-else-is_done-clause-leads
returns-else-is_done-clause-leads g c out promised =
    let bounds = g.J.JournalId.bounds in
    let source = g.L.Source.text in
    let new = c.advance.new.self in
    both_lead bounds source c.args.self.now new out
    (subst (λ (w : Working). JobGoesOn w new) c.collect.ensures c.advance.ensures.goes)
    (subst (λ (w : Working). is_some source ≡ true → is_away w.stands ≡ false
    → Leads bounds source w.stands w.log new.log new.stands) c.collect.ensures c.advance.ensures.plays) promised

pub returns-then-is_done-clause-out : goal.returns-then-is_done-clause-out
returns-then-is_done-clause-out g c =
    let bounds = g.J.JournalId.bounds in
    let source = g.L.Source.text in
    let new = c.advance.new.self in
    both_lead bounds source c.args.self.now new c.output.result
    (subst (λ (w : Working). JobGoesOn w new) c.collect.ensures c.advance.ensures.goes)
    (subst (λ (w : Working). is_some source ≡ true → is_away w.stands ≡ false
    → Leads bounds source w.stands w.log new.log new.stands) c.collect.ensures c.advance.ensures.plays)
    (c.output.ensures.promised, c.output.ensures.plays)
