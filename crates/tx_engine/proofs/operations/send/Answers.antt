use Rattle.std.proofs.Common.{sym}
use Rattle.tx_steps.specs.Steps.{called, delivered}
use Rattle.tx_engine.proofs.SessionTurns.{held_amiss, held_many, goes_on}
use Rattle.tx_engine.proofs.Turns.{did_send}
use Rattle.tx_network.proofs.Walks.{is_way}
use Rattle.tx_engine.proofs.operations.send.Goals as goal

pub returns-then-not-may_go : goal.returns-then-not-may_go
returns-then-not-may_go g c = held_amiss g.J.JournalId.bounds (called c.args.call.now)
    (delivered c.args.delivery.now) c.args.session.now c.args.network.now (sym c.if-not-may_go.ensures)

pub returns-then-is_too_many : goal.returns-then-is_too_many
returns-then-is_too_many g c = held_many g.J.JournalId.bounds (called c.args.call.now)
    (delivered c.args.delivery.now) c.args.session.now c.args.network.now (sym c.if-not-may_go.ensures)
    (sym c.if-is_too_many.ensures)

pub send-requires : goal.send-requires
send-requires g c = record { way = is_way g.J.JournalId.bounds }

pub returns : goal.returns
returns g c =
    let what = called c.args.call.now in
    let delivery = delivered c.args.delivery.now in
    let old = c.args.session.now in
    let new = c.send.new.session in
    let from = c.args.network.now in
    let to = c.send.new.sender in
    goes_on g.J.JournalId.bounds what delivery old from (sym c.if-not-may_go.ensures) (sym c.if-is_too_many.ensures) new
    to c.send.result
    (did_send g.J.JournalId.bounds what delivery old new from c.set_delivery.new.self to c.set_delivery.ensures
    c.send.result c.send.ensures)
