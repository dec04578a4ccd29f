use Rattle.std.proofs.Common.{◌∙◌, sym, subst}
use Rattle.tx_core.specs.Allowed.{Allowed}
use Rattle.tx_client.specs.Calls.{Seated}
use Rattle.tx_client.specs.Facts.{IsFor}
use Rattle.tx_client.proofs.Due.{next_allowed}
use Rattle.tx_client.proofs.session.Session.send_next.Goals as goal

pub pursue-requires-clause-allowed : goal.pursue-requires-clause-allowed
pursue-requires-clause-allowed g c =
    let due = c.in-Ok-Some.due in
    subst (λ (z : Seated). Allowed z.seat.events due.body) c.self.view_is
    (next_allowed g.J.JournalId.bounds c.self.inside.seat.events c.self.invariant.0 c.self.inside.seat.seat
    c.self.inside.transaction c.self.invariant.1 c.args.phase due (sym c.in-Ok-Some.ensures.ok
    ∙ c.in-Ok-Some.field-0-is)).0

pub pursue-requires-clause-right : goal.pursue-requires-clause-right
pursue-requires-clause-right g c =
    let due = c.in-Ok-Some.due in
    subst (λ (z : Seated). IsFor z.state c.args.phase due) c.self.view_is
    (next_allowed g.J.JournalId.bounds c.self.inside.seat.events c.self.invariant.0 c.self.inside.seat.seat
    c.self.inside.transaction c.self.invariant.1 c.args.phase due (sym c.in-Ok-Some.ensures.ok
    ∙ c.in-Ok-Some.field-0-is)).1
