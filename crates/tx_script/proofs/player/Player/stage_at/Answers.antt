use Rattle.std.proofs.Common.{sym, subst}
use Rattle.tx_engine.specs.Slots.{AllSeated}
use Rattle.tx_script.specs.Players.{PlayerState}
use Rattle.tx_script.proofs.Players.{kept}
use Rattle.tx_script.proofs.player.Player.stage_at.Goals as goal

pub line_stage-requires : goal.line_stage-requires
line_stage-requires g c = record {
  ready = subst (λ (p : PlayerState). AllSeated g.J.JournalId.bounds 0 p.engine) (sym c.self.view_is)
      (kept g.J.JournalId.bounds c.args.self.now c.requires).seated;
}
