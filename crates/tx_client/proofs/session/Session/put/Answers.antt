use Rattle.std.proofs.Common.{◌≡◌, false, sym, subst}
use Rattle.tx_transaction.specs.Buffers.{buffered, put_over}
use Rattle.tx_transaction.specs.Sessions.{SessionState, is_declared}
use Rattle.tx_client.specs.Facts.{IsSeated}
use Rattle.tx_client.specs.Calls.{Seated}
use Rattle.tx_client.proofs.Events.{touched_ok}
use Rattle.tx_client.proofs.Calls.{either}
use Rattle.tx_client.proofs.session.Session.put.Goals as goal

pub invariant_of-self : goal.invariant_of-self
invariant_of-self g c =
    let not_yet : is_declared c.self.inside.transaction ≡ false =
    subst (λ (z : Seated). is_declared z.state ≡ false) (sym c.self.view_is) c.requires in
    either c.put.result _ (λ (z : SessionState). IsSeated g.J.JournalId.bounds
    c.self.inside.seat z) c.self.inside.transaction _ c.put.new.self c.put.ensures.ok c.put.ensures.same
    c.self.invariant (
      c.self.invariant.0,
      touched_ok c.self.inside.seat.events c.self.inside.seat.seat c.self.inside.transaction
          c.self.invariant.1 c.args.key (put_over (buffered c.self.inside.transaction.buffer c.args.key) c.args.value)
          not_yet,
    )
