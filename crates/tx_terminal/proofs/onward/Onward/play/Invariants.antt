use Rattle.tx_script.specs.Players.{IsPlayer}
use Rattle.tx_terminal.proofs.onward.Onward.play.Given as goal

abbrev pub invariant-lines : goal.invariant-lines
invariant-lines g l = IsPlayer g.J.JournalId.bounds l.lines.player
