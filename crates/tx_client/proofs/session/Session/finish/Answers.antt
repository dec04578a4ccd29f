use Rattle.std.proofs.Common.{◌∙◌, sym, ap, subst}
use Rattle.tx_transaction.specs.Sessions.{finish_of}
use Rattle.tx_client.specs.Facts.{IsSeated}
use Rattle.tx_client.specs.Calls.{Seated}
use Rattle.tx_client.proofs.Calls.{decided_so, finish_may, finish_ends}
use Rattle.tx_client.proofs.Ordered.{answers_in_order}
use Rattle.tx_client.proofs.session.Session.finish.Goals as goal

pub record_answered-requires : goal.record_answered-requires
record_answered-requires g c =
    finish_may g.J.JournalId.bounds c.args.self.seat c.self.inside.seat c.args.self.state c.start-start.result
    c.in-Some.outcome (subst (λ (z : Seated). IsSeated g.J.JournalId.bounds z.seat z.state) c.self.view_is
    c.self.invariant) (ap (λ (z : Seated). finish_of z.state) (sym c.self.view_is) ∙ sym c.outcome.ensures
    ∙ c.in-Some.is) (ap (λ (z : Seated). z.seat) c.self.view_is) (c.start-start.ensures
    ∙ ap (λ (z : Seated). z.state.start) c.self.view_is)

pub returns-in-Some-clause-ended : goal.returns-in-Some-clause-ended
returns-in-Some-clause-ended g c =
    finish_ends g.J.JournalId.bounds c.args.self.seat c.self.inside.seat c.args.self.state c.start-start.result
    c.in-Some.outcome (subst (λ (z : Seated). IsSeated g.J.JournalId.bounds z.seat z.state) c.self.view_is
    c.self.invariant) (ap (λ (z : Seated). finish_of z.state) (sym c.self.view_is) ∙ sym c.outcome.ensures
    ∙ c.in-Some.is) (ap (λ (z : Seated). z.seat) c.self.view_is) (c.start-start.ensures
    ∙ ap (λ (z : Seated). z.state.start) c.self.view_is) c.record_answered.new.seat c.record_answered.ensures

pub returns-in-Some-clause-in_order : goal.returns-in-Some-clause-in_order
returns-in-Some-clause-in_order g c =
    let is = subst (λ (z : Seated). IsSeated g.J.JournalId.bounds z.seat z.state) c.self.view_is c.self.invariant in
    answers_in_order g.J.JournalId.bounds c.args.self.seat c.args.self.state c.in-Some.outcome is
    (decided_so g.J.JournalId.bounds c.args.self.seat c.args.self.state c.in-Some.outcome is
    (ap (λ (z : Seated). finish_of z.state) (sym c.self.view_is) ∙ sym c.outcome.ensures ∙ c.in-Some.is))
