use Rattle.std.proofs.Common.{sym}
use Rattle.tx_transaction.specs.declared.state.Phase.TheVariants as phase
use Rattle.tx_transaction.specs.Sessions.{can_commit, due_commit}
use Rattle.tx_client.specs.Walks.{due_walk}
use Rattle.tx_ops.proofs.CallWalks.{not_allowed, allowed_sent}
use Rattle.tx_ops.proofs.calls.commit.Goals as goal

pub returns-then-not-can_commit : goal.returns-then-not-can_commit
returns-then-not-can_commit g c =
    let s = c.args.session.now.state in
    not_allowed g.S.Sender.sends g.J.JournalId.bounds c.args.session.now c.args.sender.now (can_commit s)
    (due_walk s phase.Commit (due_commit s)) (sym c.if-not-can_commit.ensures)

pub returns : goal.returns
returns g c =
    let s = c.args.session.now.state in
    allowed_sent g.S.Sender.sends g.J.JournalId.bounds c.args.session.now c.args.sender.now (can_commit s)
    (due_walk s phase.Commit (due_commit s)) (sym c.if-not-can_commit.ensures)
    c.commit_next.new.self c.commit_next.new.sender
    c.commit_next.result c.sent.result c.commit_next.ensures c.sent.ensures
