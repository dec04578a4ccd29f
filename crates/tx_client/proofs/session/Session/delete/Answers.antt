use Rattle.std.proofs.Common.{◌≡◌, false, sym, subst}
use Rattle.tx_types.specs.declared.mutation.Mutation.TheVariants.{Delete}
use Rattle.tx_transaction.specs.Sessions.{SessionState, is_declared}
use Rattle.tx_client.specs.Facts.{IsSeated}
use Rattle.tx_client.specs.Calls.{Seated}
use Rattle.tx_client.proofs.Events.{touched_ok}
use Rattle.tx_client.proofs.Calls.{either}
use Rattle.tx_client.proofs.session.Session.delete.Goals as goal

pub invariant_of-self : goal.invariant_of-self
invariant_of-self g c =
    let not_yet : is_declared c.self.inside.transaction ≡ false =
    subst (λ (z : Seated). is_declared z.state ≡ false) (sym c.self.view_is) c.requires in
    either c.touch.result _ (λ (z : SessionState). IsSeated g.J.JournalId.bounds
    c.self.inside.seat z) c.self.inside.transaction _ c.touch.new.self c.touch.ensures.ok c.touch.ensures.same
    c.self.invariant (
      c.self.invariant.0,
      touched_ok c.self.inside.seat.events c.self.inside.seat.seat c.self.inside.transaction
          c.self.invariant.1 c.args.key Delete not_yet,
    )
