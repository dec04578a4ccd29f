use Rattle.std.proofs.Common.{◌≡◌, rules, sym, ap, subst, refl, ◌∙◌}
use Rattle.tx_workload.specs.Logs.{Logged}
use Rattle.tx_run.specs.Jobs.{Working}
use Rattle.tx_run.specs.Played.{Leads, at}
use Rattle.tx_run.proofs.Leads.{leads_from, leads_same}
use Rattle.tx_run.proofs.job.ScriptJob.begin_line.Goals as goal

pub returns-then-is_transferring-clause-plays : goal.returns-then-is_transferring-clause-plays
returns-then-is_transferring-clause-plays g c known here =
    let old = c.args.self.now in
    leads_same g.J.JournalId.bounds g.L.Source.text old.stands old.stands old.log old.log here refl refl

pub returns-in-Some-clause-plays : goal.returns-in-Some-clause-plays
returns-in-Some-clause-plays g c known here =
    let bounds = g.J.JournalId.bounds in
    let source = g.L.Source.text in
    let old = c.args.self.now in
    let new = c.enter.new.self in
    let same = c.in-Some.ensures.some.0 in
    leads_from bounds source old.stands old.log new.log new.stands
    (λ from is. subst (λ (l : Logged). Leads bounds source (at from) l new.log new.stands)
    (sym (ap (λ (w : Working). w.log) same))
    (c.enter.ensures.plays known from (sym (ap (λ (w : Working). w.stands) same) ∙ is)))
    here (sym c.is_transferring.ensures.stands ∙ c.if-is_transferring.false)

pub returns-in_default-clause-plays : goal.returns-in_default-clause-plays
returns-in_default-clause-plays g c known here =
    let old = c.args.self.now in
    let new = c.next_line.new.self in
    let same : new ≡ old = search rules in
    leads_same g.J.JournalId.bounds g.L.Source.text old.stands new.stands old.log new.log here
    (ap (λ (w : Working). w.stands) same) (ap (λ (w : Working). w.log) same)
