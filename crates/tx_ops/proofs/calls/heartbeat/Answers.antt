use Rattle.std.proofs.Common.{sym}
use Rattle.tx_transaction.specs.Sessions.{has_primary}
use Rattle.tx_client.specs.Walks.{heartbeat_walk}
use Rattle.tx_ops.proofs.CallWalks.{not_allowed, allowed_sent}
use Rattle.tx_ops.proofs.calls.heartbeat.Goals as goal

pub returns-then-not-has_primary : goal.returns-then-not-has_primary
returns-then-not-has_primary g c =
    let s = c.args.session.now.state in
    not_allowed g.S.Sender.sends g.J.JournalId.bounds c.args.session.now c.args.sender.now (has_primary s)
    (heartbeat_walk s c.args.ttl) (sym c.if-not-has_primary.ensures)

pub returns : goal.returns
returns g c =
    let s = c.args.session.now.state in
    allowed_sent g.S.Sender.sends g.J.JournalId.bounds c.args.session.now c.args.sender.now (has_primary s)
    (heartbeat_walk s c.args.ttl) (sym c.if-not-has_primary.ensures) c.heartbeat.new.self c.heartbeat.new.sender
    c.heartbeat.result c.sent.result c.heartbeat.ensures c.sent.ensures
