use Rattle.tx_run.proofs.Leads.{played_leads}
use Rattle.tx_run.proofs.job.ScriptJob.enter.Goals as goal

pub returns-in-Line-clause-plays : goal.returns-in-Line-clause-plays
returns-in-Line-clause-plays g c known from is =
    let new = c.play.new.self in
    played_leads g.J.JournalId.bounds g.L.Source.text from _ c.args.self.now.log new.log new.stands
    (c.play.ensures.plays known from is)
