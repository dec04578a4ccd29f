use Rattle.std.proofs.Common.{sym}
use Rattle.tx_transaction.specs.declared.state.Phase.TheVariants as phase
use Rattle.tx_transaction.specs.Sessions.{can_abort, due_abort}
use Rattle.tx_client.specs.Walks.{due_walk}
use Rattle.tx_ops.proofs.CallWalks.{not_allowed, allowed_sent}
use Rattle.tx_ops.proofs.calls.abort.Goals as goal

pub returns-then-not-can_abort : goal.returns-then-not-can_abort
returns-then-not-can_abort g c =
    let s = c.args.session.now.state in
    not_allowed g.S.Sender.sends g.J.JournalId.bounds c.args.session.now c.args.sender.now (can_abort s)
    (due_walk s phase.Abort (due_abort s)) (sym c.if-not-can_abort.ensures)

pub returns : goal.returns
returns g c =
    let s = c.args.session.now.state in
    allowed_sent g.S.Sender.sends g.J.JournalId.bounds c.args.session.now c.args.sender.now (can_abort s)
    (due_walk s phase.Abort (due_abort s)) (sym c.if-not-can_abort.ensures)
    c.abort_next.new.self c.abort_next.new.sender
    c.abort_next.result c.sent.result c.abort_next.ensures c.sent.ensures
