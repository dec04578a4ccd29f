use Rattle.std.proofs.Common.{◌≡◌, false, sym, subst}
use Rattle.tx_transaction.specs.Sessions.{is_declared}
use Rattle.tx_client.specs.Calls.{Seated}
use Rattle.tx_client.proofs.Calls.{inserted_seated}
use Rattle.tx_client.proofs.session.Session.insert.Goals as goal

pub invariant_of-self : goal.invariant_of-self
invariant_of-self g c =
    let not_yet : is_declared c.self.inside.transaction ≡ false =
    subst (λ (z : Seated). is_declared z.state ≡ false) (sym c.self.view_is) c.requires in
    inserted_seated g.J.JournalId.bounds c.self.inside.seat c.self.inside.transaction
    c.insert.new.self c.args.key c.args.value c.insert.result c.self.invariant not_yet c.insert.ensures.ok
    c.insert.ensures.same
