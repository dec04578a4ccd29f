use Rattle.std.proofs.Common.{◌≡◌, true, sym, subst}
use Rattle.tx_transaction.specs.Sessions.{SessionState, can_draw}
use Rattle.tx_client.specs.Facts.{IsSeated}
use Rattle.tx_client.specs.Calls.{Seated}
use Rattle.tx_client.proofs.Calls.{drew_seated}
use Rattle.tx_client.proofs.session.Session.draw_commit.Goals as goal

pub invariant_of-self-2 : goal.invariant_of-self-2
invariant_of-self-2 g c =
    let can : can_draw c.self.inside.transaction ≡ true =
    subst (λ (z : Seated). can_draw z.state ≡ true) (sym c.self.view_is) c.requires in
    subst (λ (z : SessionState). IsSeated g.J.JournalId.bounds c.draw.new.self z) (sym c.drew.ensures)
    (drew_seated g.J.JournalId.bounds c.self.inside.seat c.draw.new.self
    c.self.inside.transaction c.in_ok-commit.commit c.self.invariant can c.in_ok-commit.ensures.seat
    c.in_ok-commit.ensures.drawn)
