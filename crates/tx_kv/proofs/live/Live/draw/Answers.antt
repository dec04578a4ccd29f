use Rattle.tx_kv.proofs.Draws.{if_drawn_then}
use Rattle.tx_kv.proofs.live.Live.draw.Goals as goal

pub returns-clause-drawn : goal.returns-clause-drawn
returns-clause-drawn g c =
    if_drawn_then g.J.JournalId.bounds c.args.seat.now c.last-now.new.self c.last-now.ensures.same.0
    c.last-now.ensures.seen 1 c.draw.new.self.events c.draw.result c.draw.ensures.drawn
