use Rattle.tx_core.proofs.seats.Beginnings.{begins_more}
use Rattle.tx_update.proofs.lent.Lent.look_over.Goals as goal

pub returns-clause-more : goal.returns-clause-more
returns-clause-more g c =
    begins_more c.args.self.now.running.seat.events c.scan-response.new.self.seat.events
    c.passed.new.self.running.seat.events c.scan-response.ensures.more c.passed.ensures.more
