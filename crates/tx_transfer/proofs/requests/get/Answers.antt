use Rattle.tx_client.proofs.WriteSets.{keeps_get}
use Rattle.tx_client.specs.Walks.{get_walk}
use Rattle.tx_transfer.proofs.Sends.{sent_as}
use Rattle.tx_transfer.proofs.requests.get.Goals as goal

pub returns-clause-sends : goal.returns-clause-sends
returns-clause-sends g c = c.get.ensures

pub returns-clause-set : goal.returns-clause-set
returns-clause-set g c = keeps_get g.S.Sender.sends g.J.JournalId.bounds c.args.session.now.seat c.get.new.self.seat
    c.args.sender.now c.get.new.sender c.args.session.now.state c.args.key.now (c.get.new.self.state, c.get.result)
    c.get.ensures

pub returns-clause-over : goal.returns-clause-over
returns-clause-over g c =
    let old = c.args.session.now in
    let new = c.get.new.self in
    sent_as g.S.Sender.sends g.J.JournalId.bounds old.seat new.seat c.args.sender.now c.get.new.sender
    (get_walk old.state c.args.key.now) (new.state, c.get.result) c.get.ensures c.requires.replies
