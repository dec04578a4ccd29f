use Rattle.std.proofs.Common.{Bool, refl, sym, ap, subst, ◌∙◌}
use Rattle.tx_transaction.specs.Sessions.{SessionState}
use Rattle.tx_transfer.specs.Steps.{DrewIf}
use Rattle.tx_client.specs.Calls.{Seated}
use Rattle.tx_transfer.specs.Seeds.{PutsJust}
use Rattle.tx_transfer.proofs.SeedWrites.{keeps_same}
use Rattle.tx_transfer.proofs.requests.draw.Goals as goal

pub returns-then-not-can_draw-clause-put : goal.returns-then-not-can_draw-clause-put
returns-then-not-can_draw-clause-put g c = λ key value just. just

pub returns-in_err-draw_commit-clause-put : goal.returns-in_err-draw_commit-clause-put
returns-in_err-draw_commit-clause-put g c =
    keeps_same c.args.session.now.state c.draw_commit.new.self.state
    (ap (λ (s : Seated). s.state) c.in_err-draw_commit.ensures.spent.2)

pub returns-clause-put : goal.returns-clause-put
returns-clause-put g c =
    λ key value just. subst (λ (s : SessionState). PutsJust key value s) (sym c.in_ok-draw_commit.ensures.ok.0) just

pub returns-then-not-can_draw-clause-draws : goal.returns-then-not-can_draw-clause-draws
returns-then-not-can_draw-clause-draws g c =
    let s = c.args.session.now in
    subst (λ (b : Bool). DrewIf g.J.JournalId.bounds b s s) (sym (sym c.can_draw.ensures ∙ c.if-not-can_draw.true)) refl

pub returns-clause-draws : goal.returns-clause-draws
returns-clause-draws g c =
    let s = c.args.session.now in
    let t = c.draw_commit.new.self in
    subst (λ (b : Bool). DrewIf g.J.JournalId.bounds b s t) (sym (sym c.can_draw.ensures ∙ c.if-not-can_draw.false))
    (_, c.in_ok-draw_commit.ensures.ok.0, c.in_ok-draw_commit.ensures.ok.1)
