use Rattle.std.proofs.Common.{refl}
use Rattle.tx_steps.specs.Steps.{called}
use Rattle.tx_ops.specs.Calls.{call_walk}
use Rattle.tx_ops.proofs.CallEnds.{call_says}
use Rattle.tx_ops.proofs.Answered.{call_answered}
use Rattle.tx_transfer.proofs.LineActs.{IsPlain, never_lost}
use Rattle.tx_transfer.proofs.Sends.{replies_came, sent_as, sent_keeps}
use Rattle.tx_transfer.proofs.requests.call.Goals as goal

pub returns-clause-sends : goal.returns-clause-sends
returns-clause-sends g c =
    let old = c.args.session.now in
    let new = c.send.new.session in
    sent_as g.S.Sender.sends g.J.JournalId.bounds old.seat new.seat c.args.sender.now c.send.new.sender
    (call_walk g.J.JournalId.bounds old.state (called c.args.call.now)) (new.state, c.send.result) c.send.ensures
    c.requires.replies

pub returns-clause-answered : goal.returns-clause-answered
returns-clause-answered g c =
    let old = c.args.session.now in
    let new = c.send.new.session in
    never_lost c.send.result
    (call_answered g.S.Sender.sends g.J.JournalId.bounds old.seat new.seat c.args.sender.now c.send.new.sender old.state
    new.state (called c.args.call.now) c.send.result c.send.ensures
    (λ a b q reached is. replies_came a b q reached (c.requires.replies a b q reached is)))

pub returns-clause-plain : goal.returns-clause-plain
returns-clause-plain g c =
    let old = c.args.session.now in
    let new = c.send.new.session in
    call_says IsPlain (λ a. refl) refl refl refl refl g.S.Sender.sends g.J.JournalId.bounds old.seat new.seat
    c.args.sender.now c.send.new.sender old.state new.state (called c.args.call.now) c.send.result c.send.ensures

pub returns-clause-keeps : goal.returns-clause-keeps
returns-clause-keeps g c =
    let old = c.args.session.now in
    let new = c.send.new.session in
    sent_keeps g.S.Sender.sends g.J.JournalId.bounds old.seat new.seat c.args.sender.now c.send.new.sender
    (call_walk g.J.JournalId.bounds old.state (called c.args.call.now)) (new.state, c.send.result) c.send.ensures
