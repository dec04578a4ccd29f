use Rattle.tx_line_store.proofs.Played.{first_played}
use Rattle.tx_line_store.proofs.lines.Lines.open.Goals as goal

pub returns-clause-plays : goal.returns-clause-plays
returns-clause-plays g c = first_played g.J.JournalId.bounds c.args.first.now c.in_ok-player.player c.play.new.self
    c.in_ok-said.said c.in_ok-player.ensures.none c.in_ok-said.ensures.plays c.in_ok-said.ensures.counts
    c.in_ok-player.ensures.played
