use Rattle.std.proofs.Common.{sym, subst}
use Rattle.std.proofs.Common.{ℕ, List}
use Rattle.serde_json.specs.Data.{Items}
use Rattle.tx_script.specs.Loops.{BetweenLines}
use Rattle.tx_script.specs.Players.{PlayerState, HasPlayed, EndWellWith}
use Rattle.tx_script.proofs.Players.{kept, ends}
use Rattle.tx_script.proofs.player.Player.end.Goals as goal

pub close-requires-clause-kept : goal.close-requires-clause-kept
close-requires-clause-kept g c =
    subst (λ (p : PlayerState). BetweenLines g.J.JournalId.bounds p.engine) (sym c.self.view_is)
    (kept g.J.JournalId.bounds c.args.self c.requires.player)

pub returns : goal.returns
returns g c =
    let s = c.self.inside in
    let old : PlayerState = record { engine = s.engine; number = s.number; left = s.left } in
    subst (λ (p : PlayerState). (lines : List (List ℕ)) (done : List (ℕ × Items))
    → HasPlayed g.J.JournalId.bounds lines done p → EndWellWith g.J.JournalId.bounds lines done) c.self.view_is
    (λ lines done has. ends g.J.JournalId.bounds old c.close.ensures.came c.close.ensures.run lines done has)
