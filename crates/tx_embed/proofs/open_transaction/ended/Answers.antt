use Rattle.std.proofs.Common.{sym, subst, inr}
use Rattle.tx_core.specs.declared.event.Event.TheVariants.{Stopped}
use Rattle.tx_client.specs.Calls.{Seated, Records}
use Rattle.tx_update.proofs.CommitOrder.{ended_so}
use Rattle.tx_embed.proofs.Steps.{commits_so}
use Rattle.tx_embed.proofs.open_transaction.ended.Goals as goal

pub returns-in-Ok : goal.returns-in-Ok
returns-in-Ok g c =
    λ terms old writes wrote names why at_most.
    let bounds = g.J.JournalId.bounds in
    let session = c.args.session in
    commits_so bounds terms old session c.in-Ok.seat c.show.ensures.run at_most c.in-Ok.outcome c.args.done
    c.told_of.result
    (ended_so bounds old session c.in-Ok.outcome old.state.start c.in-Ok.seat c.show.ensures.run c.show.ensures.stands
    writes (sym writes.start) c.in-Ok.ensures.ended c.in-Ok.ensures.in_order)
    wrote names why c.told_of.ensures

pub returns-in-Err : goal.returns-in-Err
returns-in-Err g c =
    λ terms old writes wrote names why at_most.
    let open_yet = c.in-Err.ensures.open_yet in
    inr (
      c.args.session,
      writes,
      open_yet.0,
      subst (λ (s : Seated). Records g.J.JournalId.bounds s.seat
          (Stopped s.seat.seat) c.stop.result) open_yet.1 c.stop.ensures,
    )
