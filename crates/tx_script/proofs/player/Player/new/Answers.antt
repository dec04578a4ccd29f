use Rattle.std.proofs.Common.{arith}
use Rattle.tx_script.proofs.Players.{played_none}
use Rattle.tx_script.proofs.player.Player.new.Goals as goal

pub returns-clause-played : goal.returns-clause-played
returns-clause-played g c = played_none g.J.JournalId.bounds c.in_ok-engine.engine 4294967295
    c.in_ok-engine.ensures.opening
    c.in_ok-engine.ensures.slots (c.in_ok-engine.ensures.ready 4294967295 (omega arith))

pub returns-clause-player : goal.returns-clause-player
returns-clause-player g c = (returns-clause-played g c).stands
