use Rattle.tx_script.specs.Players.{IsPlayer}
use Rattle.tx_terminal.proofs.terminal.Terminal.play.Given as goal

abbrev pub invariant-steps : goal.invariant-steps
invariant-steps g l = IsPlayer g.J.JournalId.bounds l.player
