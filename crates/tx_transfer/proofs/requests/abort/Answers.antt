use Rattle.tx_transaction.specs.declared.state.Phase.TheVariants as phase
use Rattle.tx_transaction.specs.Sessions.{due_abort}
use Rattle.tx_client.proofs.WriteSets.{keeps_due}
use Rattle.tx_client.specs.Walks.{due_walk}
use Rattle.tx_transfer.proofs.Sends.{sent_as}
use Rattle.tx_transfer.proofs.requests.abort.Goals as goal

pub returns-clause-sends : goal.returns-clause-sends
returns-clause-sends g c = c.abort_next.ensures

pub returns-clause-set : goal.returns-clause-set
returns-clause-set g c =
    let s = c.args.session.now.state in
    keeps_due g.S.Sender.sends g.J.JournalId.bounds c.args.session.now.seat c.abort_next.new.self.seat c.args.sender.now
    c.abort_next.new.sender s phase.Abort (due_abort s) (c.abort_next.new.self.state, c.abort_next.result)
    c.abort_next.ensures

pub returns-clause-over : goal.returns-clause-over
returns-clause-over g c =
    let old = c.args.session.now in
    let new = c.abort_next.new.self in
    sent_as g.S.Sender.sends g.J.JournalId.bounds old.seat new.seat c.args.sender.now c.abort_next.new.sender
    (due_walk old.state phase.Abort (due_abort old.state))
    (new.state, c.abort_next.result) c.abort_next.ensures c.requires.replies
