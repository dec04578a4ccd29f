use Rattle.std.proofs.Common.{sym}
use Rattle.tx_engine.proofs.SessionTurns.{draw_early, drew_did}
use Rattle.tx_engine.proofs.operations.draw.Goals as goal

pub returns-then-not-can_draw : goal.returns-then-not-can_draw
returns-then-not-can_draw g c = draw_early g.J.JournalId.bounds c.args.session.now c.args.network.now
    (sym c.if-not-can_draw.ensures)

pub returns : goal.returns
returns g c =
    drew_did g.J.JournalId.bounds c.args.session.now c.draw_at.new.session c.args.network.now c.draw_at.new.network
    c.draw_at.result (sym c.if-not-can_draw.ensures) c.draw_at.ensures.state c.draw_at.ensures.acts
