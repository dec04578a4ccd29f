use Rattle.tx_update.proofs.Ranges.{upto_key}
use Rattle.tx_update.proofs.lent.Lent.rows_upto.Goals as goal

pub returns-clause-finds : goal.returns-clause-finds
returns-clause-finds g c =
    upto_key g.J.JournalId.bounds c.args.self.now.running.state.buffer c.pages.new.self.running.seat.events
    c.know_run.ensures g.B.Begun.session.state.start c.args.from.now c.args.to.now c.in_ok-rows.rows.items
    c.in_ok-rows.ensures.finds
