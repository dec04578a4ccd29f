use Rattle.std.proofs.Common.{◌≡◌, ℕ, List, sym, subst}
use Rattle.serde_json.specs.Data.{Items}
use Rattle.tx_core.specs.Worlds.{route}
use Rattle.tx_script.specs.Players.{PlayerState, HasPlayed, IsPlayer, Peeked}
use Rattle.tx_script.proofs.Peeks.{player_still, peeked, played_still}
use Rattle.tx_script.proofs.player.Player.show_key.Goals as goal

pub returns-clause-player : goal.returns-clause-player
returns-clause-player g c =
    let s = c.self.inside in
    let bounds = g.J.JournalId.bounds in
    let old : PlayerState = record { engine = s.engine; number = s.number; left = s.left } in
    player_still bounds (route bounds c.args.key.now) c.args.key.now c.show_key.result s.engine c.show_key.new.self
    c.show_key.ensures s.number s.left (subst (IsPlayer bounds) (sym c.self.view_is) c.requires)

pub returns-clause-played : goal.returns-clause-played
returns-clause-played g c =
    let s = c.self.inside in
    let bounds = g.J.JournalId.bounds in
    let new : PlayerState = record { engine = c.show_key.new.self; number = s.number; left = s.left } in
    subst (λ (p : PlayerState). (lines : List (List ℕ)) (done : List (ℕ × Items)) → HasPlayed bounds lines done p
    → HasPlayed bounds lines done new) c.self.view_is
    (played_still bounds (route bounds c.args.key.now) c.args.key.now c.show_key.result s.engine c.show_key.new.self
    c.show_key.ensures s.number s.left)

pub returns-clause-same : goal.returns-clause-same
returns-clause-same g c =
    let s = c.self.inside in
    let bounds = g.J.JournalId.bounds in
    let new : PlayerState = record { engine = c.show_key.new.self; number = s.number; left = s.left } in
    subst (λ (p : PlayerState). Peeked bounds p new) c.self.view_is
    (peeked bounds (route bounds c.args.key.now) c.args.key.now c.show_key.result s.engine c.show_key.new.self
    c.show_key.ensures s.number s.left (subst (IsPlayer bounds) (sym c.self.view_is) c.requires))
