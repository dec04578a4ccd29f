use Rattle.tx_core.proofs.seats.Beginnings.{begins_all, begins_more}
use Rattle.tx_update.proofs.lent.Lent.page_of.Goals as goal

pub returns-in_err-end-in-Some-clause-more : goal.returns-in_err-end-in-Some-clause-more
returns-in_err-end-in-Some-clause-more g c = begins_all c.args.self.now.running.seat.events

pub returns-in_err-end-in-None-clause-more : goal.returns-in_err-end-in-None-clause-more
returns-in_err-end-in-None-clause-more g c = begins_all c.args.self.now.running.seat.events

pub returns-clause-more : goal.returns-clause-more
returns-clause-more g c =
    begins_more c.args.self.now.running.seat.events c.first_rows.new.self.running.seat.events
    c.whole-2.new.self.running.seat.events c.first_rows.ensures.more c.whole-2.ensures.more
