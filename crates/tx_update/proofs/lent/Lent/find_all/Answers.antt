use Rattle.tx_update.proofs.FoundKeys.{if_each_now}
use Rattle.tx_update.proofs.lent.Lent.find_all.Goals as goal

pub returns-clause-finds : goal.returns-clause-finds
returns-clause-finds g c =
    if_each_now g.J.JournalId.bounds c.args.self.now.running.state.buffer
    c.find_each-found.new.self.running.seat.events c.know_run.ensures g.B.Begun.session.state.start c.args.keys.now
    c.find_each-found.result c.find_each-found.ensures.finds
