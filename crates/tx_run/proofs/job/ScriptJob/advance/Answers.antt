use Rattle.tx_run.proofs.Leads.{advance_ends, advance_leads, leads_trans}
use Rattle.tx_run.proofs.job.ScriptJob.advance.Goals as goal

pub returns-in-More-clause-plays : goal.returns-in-More-clause-plays
returns-in-More-clause-plays g c known here =
    let bounds = g.J.JournalId.bounds in
    let source = g.L.Source.text in
    let old = c.args.self.now in
    let begun = c.begin_line.new.self in
    let new = c.advance_transfer.new.self in
    let first = c.begin_line.ensures.plays known here in
    leads_trans bounds source old.stands begun.stands new.stands old.log begun.log new.log first
    (advance_leads bounds source c.advance_transfer.result begun new c.advance_transfer.ensures.advances c.in-More.is
    first.stands)

pub returns-in_default-clause-plays : goal.returns-in_default-clause-plays
returns-in_default-clause-plays g c known here =
    let bounds = g.J.JournalId.bounds in
    let source = g.L.Source.text in
    let old = c.args.self.now in
    let begun = c.begin_line.new.self in
    let mid = c.advance_transfer.new.self in
    let new = c.finish_transfer.new.self in
    let first = c.begin_line.ensures.plays known here in
    leads_trans bounds source old.stands begun.stands new.stands old.log begun.log new.log first
    (advance_ends bounds source c.advance_transfer.result begun mid new c.advance_transfer.ensures.advances
    c.in_default.not-More c.finish_transfer.ensures.ends)
