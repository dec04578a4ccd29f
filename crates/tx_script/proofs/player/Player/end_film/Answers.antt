use Rattle.std.proofs.Common.{◌≡◌, ◌≤◌, ℕ, List, length, sym, subst, ap, ◌∙◌}
use Rattle.serde_json.specs.Data.{Items}
use Rattle.tx_core.specs.Worlds.{IsWorldRun}
use Rattle.tx_engine.specs.Slots.{own}
use Rattle.tx_script.specs.Loops.{BetweenLines}
use Rattle.tx_script.specs.Players.{PlayerState, HasPlayed, EndWellWith}
use Rattle.tx_script.proofs.Players.{kept, ends}
use Rattle.tx_script.proofs.player.Player.end_film.Goals as goal

pub close-requires-clause-kept : goal.close-requires-clause-kept
close-requires-clause-kept g c =
    subst (λ (p : PlayerState). BetweenLines g.J.JournalId.bounds p.engine) (sym c.self.view_is)
    (kept g.J.JournalId.bounds c.args.self c.requires.player)

pub returns-clause-ends : goal.returns-clause-ends
returns-clause-ends g c =
    let s = c.self.inside in
    let old : PlayerState = record { engine = s.engine; number = s.number; left = s.left } in
    subst (λ (p : PlayerState). (lines : List (List ℕ)) (done : List (ℕ × Items))
    → HasPlayed g.J.JournalId.bounds lines done p → EndWellWith g.J.JournalId.bounds lines done) c.self.view_is
    (λ lines done has. ends g.J.JournalId.bounds old c.close.ensures.came c.close.ensures.run lines done has)

pub returns-clause-came : goal.returns-clause-came
returns-clause-came g c = subst (λ (p : PlayerState). length p.engine.network.newest ≤ own p.engine) c.self.view_is
    c.close.ensures.came

pub returns-clause-run : goal.returns-clause-run
returns-clause-run g c = subst (λ (p : PlayerState). IsWorldRun g.J.JournalId.bounds p.engine.network.newest)
    c.self.view_is c.close.ensures.run

pub returns-clause-trace : goal.returns-clause-trace
returns-clause-trace g c = c.close.ensures.trace ∙ ap (λ (p : PlayerState). p.engine.network.trace) c.self.view_is
