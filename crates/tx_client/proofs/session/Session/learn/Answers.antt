use Rattle.std.proofs.Common.{◌≡◌, ◌∙◌, sym, subst}
use Rattle.tx_core.specs.Histories.{History, Begins}
use Rattle.tx_transaction.specs.Sessions.{SessionState, with_passed}
use Rattle.tx_client.specs.Statuses.{lies_above}
use Rattle.tx_client.specs.Facts.{IsSeated}
use Rattle.tx_client.proofs.Calls.{passed_seated}
use Rattle.tx_client.proofs.session.Session.learn.Goals as goal

pub invariant_of-self : goal.invariant_of-self
invariant_of-self g c = subst (λ (z : SessionState). IsSeated g.J.JournalId.bounds c.self.inside.seat z)
    (sym c.in_err-pass.ensures.same) c.self.invariant

pub invariant_of-self-2 : goal.invariant_of-self-2
invariant_of-self-2 g c =
    let s : SessionState = c.self.inside.transaction in
    let parts = c.into_parts-start.ensures.parts in
    let may = c.lies_above-may.ensures ∙ (λ j. lies_above (parts.1 j) (c.start.ensures j)) in
    let now : c.pass.new.self ≡ with_passed s c.args.resolved.start (lies_above c.args.resolved.status s.start) =
    c.in_ok-pass.ensures.ok ∙ (λ j. with_passed s (parts.0 j) (may j)) in
    let knows : Begins c.args.resolved.events c.learn.new.self.events =
    subst (λ (h : History). Begins h c.learn.new.self.events) parts.2 c.learn.ensures.told in
    subst (λ (z : SessionState). IsSeated g.J.JournalId.bounds c.learn.new.self z) (sym now)
    (passed_seated g.J.JournalId.bounds c.self.inside.seat c.learn.new.self s c.args.resolved.events
    c.args.resolved.start c.args.resolved.status c.self.invariant c.learn.ensures.same.0 c.learn.ensures.seen knows
    c.into_parts-start.ensures.ends)
