use Rattle.std.proofs.Common.{◌≡◌, true, false, refl, sym, ap, subst}
use Rattle.tx_transaction.specs.Buffers.{not_empty}
use Rattle.tx_transaction.specs.Sessions.{SessionState, is_declared, declaration}
use Rattle.tx_client.specs.Facts.{IsSeated}
use Rattle.tx_client.specs.Calls.{Seated}
use Rattle.tx_client.specs.Order.{IsDrawnAfter}
use Rattle.tx_client.proofs.Calls.{may_declare_some, declared_seated}
use Rattle.tx_client.proofs.Ordered.{declared_after}
use Rattle.tx_client.proofs.session.Session.declare.Goals as goal

pub record_declared-requires : goal.record_declared-requires
record_declared-requires g c =
    let s = c.self.inside.transaction in
    let not_yet : is_declared s ≡ false =
    subst (λ (z : Seated). is_declared z.state ≡ false) (sym c.self.view_is) c.requires in
    λ p mid drew. may_declare_some g.J.JournalId.bounds
    c.self.inside.seat mid s p c.args.terms (declaration s.start p s.buffer c.args.terms) c.self.invariant not_yet
    drew refl

pub invariant_of-self-2 : goal.invariant_of-self-2
invariant_of-self-2 g c =
    let s = c.self.inside.transaction in
    let not_yet : is_declared s ≡ false =
    subst (λ (z : Seated). is_declared z.state ≡ false) (sym c.self.view_is) c.requires in
    subst (λ (z : SessionState). IsSeated g.J.JournalId.bounds c.record_declared.new.seat z) (sym c.declare.ensures)
    (declared_seated g.J.JournalId.bounds c.self.inside.seat c.record_declared.new.seat s c.in_ok-placed.placed
    c.args.terms (declaration s.start c.in_ok-placed.placed s.buffer c.args.terms) c.self.invariant not_yet refl
    c.in_ok-placed.ensures.ok)

pub returns-clause-after_known : goal.returns-clause-after_known
returns-clause-after_known g c =
    let s = c.self.inside.transaction in
    let after = λ (some : not_empty s.buffer ≡ true). subst (IsDrawnAfter c.self.inside.seat.events
    c.record_declared.new.seat.events) (sym (ap (λ (z : SessionState). z.placed) c.declare.ensures))
    (declared_after g.J.JournalId.bounds c.self.inside.seat
    c.record_declared.new.seat s.start c.in_ok-placed.placed s.buffer c.args.terms c.in_ok-placed.ensures.ok
    some) in
    subst (λ (z : Seated). not_empty z.state.buffer ≡ true
    → IsDrawnAfter z.seat.events c.record_declared.new.seat.events c.declare.new.self.placed) c.self.view_is after
