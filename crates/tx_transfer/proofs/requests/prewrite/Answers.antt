use Rattle.tx_transaction.specs.declared.state.Phase.TheVariants as phase
use Rattle.tx_transaction.specs.Sessions.{due_prewrite}
use Rattle.tx_client.proofs.WriteSets.{keeps_due}
use Rattle.tx_transfer.proofs.SeedWrites.{puts_due}
use Rattle.tx_client.specs.Walks.{due_walk}
use Rattle.tx_transfer.proofs.Sends.{sent_as}
use Rattle.tx_transfer.proofs.requests.prewrite.Goals as goal

pub returns-clause-sends : goal.returns-clause-sends
returns-clause-sends g c = c.prewrite_next.ensures

pub returns-clause-set : goal.returns-clause-set
returns-clause-set g c =
    let s = c.args.session.now.state in
    keeps_due g.S.Sender.sends g.J.JournalId.bounds c.args.session.now.seat c.prewrite_next.new.self.seat
    c.args.sender.now
    c.prewrite_next.new.sender s phase.Prewrite (due_prewrite s)
    (c.prewrite_next.new.self.state, c.prewrite_next.result) c.prewrite_next.ensures

pub returns-clause-put : goal.returns-clause-put
returns-clause-put g c =
    let s = c.args.session.now.state in
    puts_due g.S.Sender.sends g.J.JournalId.bounds c.args.session.now.seat c.prewrite_next.new.self.seat
    c.args.sender.now
    c.prewrite_next.new.sender s phase.Prewrite (due_prewrite s)
    (c.prewrite_next.new.self.state, c.prewrite_next.result) c.prewrite_next.ensures

pub returns-clause-over : goal.returns-clause-over
returns-clause-over g c =
    let old = c.args.session.now in
    let new = c.prewrite_next.new.self in
    sent_as g.S.Sender.sends g.J.JournalId.bounds old.seat new.seat c.args.sender.now c.prewrite_next.new.sender
    (due_walk old.state phase.Prewrite (due_prewrite old.state))
    (new.state, c.prewrite_next.result) c.prewrite_next.ensures c.requires.replies
