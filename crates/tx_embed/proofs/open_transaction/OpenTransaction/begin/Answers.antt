use Rattle.std.proofs.Common.{ap}
use Rattle.tx_transaction.specs.Sessions.{is_declared}
use Rattle.tx_update.proofs.ReadReplies.{began_drawn}
use Rattle.tx_embed.proofs.open_transaction.OpenTransaction.begin.Goals as goal

pub invariant_of-result : goal.invariant_of-result
invariant_of-result g c =
    let began = c.in_ok-session.ensures.ok in
    (ap is_declared began.0, began_drawn g.J.JournalId.bounds c.args.seat c.in_ok-session.session began.1)
