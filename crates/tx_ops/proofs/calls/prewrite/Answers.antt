use Rattle.std.proofs.Common.{sym}
use Rattle.tx_transaction.specs.declared.state.Phase.TheVariants as phase
use Rattle.tx_transaction.specs.Sessions.{is_declared, due_prewrite}
use Rattle.tx_client.specs.Walks.{due_walk}
use Rattle.tx_ops.proofs.CallWalks.{not_allowed, allowed_sent}
use Rattle.tx_ops.proofs.calls.prewrite.Goals as goal

pub returns-then-not-is_declared : goal.returns-then-not-is_declared
returns-then-not-is_declared g c =
    let s = c.args.session.now.state in
    not_allowed g.S.Sender.sends g.J.JournalId.bounds c.args.session.now c.args.sender.now (is_declared s)
    (due_walk s phase.Prewrite (due_prewrite s)) (sym c.if-not-is_declared.ensures)

pub returns : goal.returns
returns g c =
    let s = c.args.session.now.state in
    allowed_sent g.S.Sender.sends g.J.JournalId.bounds c.args.session.now c.args.sender.now (is_declared s)
    (due_walk s phase.Prewrite (due_prewrite s)) (sym c.if-not-is_declared.ensures)
    c.prewrite_next.new.self c.prewrite_next.new.sender
    c.prewrite_next.result c.sent.result c.prewrite_next.ensures c.sent.ensures
