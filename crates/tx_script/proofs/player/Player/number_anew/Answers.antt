use Rattle.std.proofs.Common.{refl, sym, subst, arith}
use Rattle.tx_script.specs.Players.{PlayerState, IsPlayer}
use Rattle.tx_script.proofs.Players.{numbers_anew}
use Rattle.tx_script.proofs.player.Player.number_anew.Goals as goal

pub returns-clause-player : goal.returns-clause-player
returns-clause-player g c =
    let s = c.self.inside in
    let bounds = g.J.JournalId.bounds in
    let old : PlayerState = record { engine = s.engine; number = s.number; left = s.left } in
    let new : PlayerState = record { engine = s.engine; number = 1; left = s.left } in
    let is : IsPlayer bounds old = subst (IsPlayer bounds) (sym c.self.view_is) c.requires.player in
    numbers_anew bounds old new refl (omega arith) (omega arith) is
