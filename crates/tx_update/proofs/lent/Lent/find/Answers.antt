use Rattle.tx_transaction.specs.Buffers.{buffered}
use Rattle.tx_update.proofs.FoundKeys.{if_found_now}
use Rattle.tx_update.proofs.lent.Lent.find.Goals as goal

pub returns-clause-finds : goal.returns-clause-finds
returns-clause-finds g c =
    if_found_now g.J.JournalId.bounds (buffered c.args.self.now.running.state.buffer c.args.key.now)
    c.find_on-found.new.self.running.seat.events c.know_run.ensures g.B.Begun.session.state.start c.args.key.now
    c.find_on-found.result c.find_on-found.ensures.finds
