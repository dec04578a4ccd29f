use Rattle.tx_core.proofs.seats.Beginnings.{begins_more}
use Rattle.tx_transaction.specs.Buffers.{buffered}
use Rattle.tx_update.proofs.FoundKeys.{if_read_on}
use Rattle.tx_update.proofs.ReadStops.{if_key_locks}
use Rattle.tx_update.proofs.lent.Lent.look.Goals as goal

pub returns-clause-more : goal.returns-clause-more
returns-clause-more g c =
    begins_more c.args.self.now.running.seat.events c.get-response.new.self.seat.events
    c.passed.new.self.running.seat.events c.get-response.ensures.more c.passed.ensures.more

pub returns-clause-err : goal.returns-clause-err
returns-clause-err g c =
    c.passed.ensures.err
    (if_key_locks c.get-response.new.self.seat.events g.B.Begun.session.state.start c.args.key.now
    c.get-response.result (c.get-response.ensures.may c.args.self.now.drawn))
    (c.get-response.ensures.misses c.args.self.now.drawn)

pub returns-clause-reads : goal.returns-clause-reads
returns-clause-reads g c =
    if_read_on g.J.JournalId.bounds (buffered c.args.self.now.running.state.buffer c.args.key.now)
    g.B.Begun.session.state.start c.args.key.now c.get-response.result c.get-response.new.self
    c.passed.new.self.running c.passed.result c.get-response.ensures.reads c.passed.ensures.answers
