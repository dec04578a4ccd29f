use Rattle.std.proofs.Common.{ap, refl}
use Rattle.tx_client.specs.Calls.{Seated}
use Rattle.tx_transaction.specs.Sessions.{SessionState}
use Rattle.tx_update.proofs.CallSequences.{follows_itself, follows_same, follows_draw}
use Rattle.tx_embed.proofs.session.draw_commit.Goals as goal

pub returns-in_err-draw_commit : goal.returns-in_err-draw_commit
returns-in_err-draw_commit g c = record {
  session = follows_same c.args.session.now c.draw_commit.new.self c.in_err-draw_commit.ensures.spent.2;
  buffer = ap (λ (s : Seated). s.state.buffer) c.in_err-draw_commit.ensures.spent.2;
}

pub returns : goal.returns
returns g c = record {
  session = follows_draw g.J.JournalId.bounds c.args.session.now c.draw_commit.new.self c.in_ok-draw_commit.field-0
      c.in_ok-draw_commit.ensures.ok.0 c.in_ok-draw_commit.ensures.ok.1;
  buffer = ap (λ (s : SessionState). s.buffer) c.in_ok-draw_commit.ensures.ok.0;
}

pub returns-then-not-can_draw : goal.returns-then-not-can_draw
returns-then-not-can_draw g c = record { session = follows_itself c.args.session.now; buffer = refl }
