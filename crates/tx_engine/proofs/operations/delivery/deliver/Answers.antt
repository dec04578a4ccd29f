use Rattle.std.proofs.Common.{ap}
use Rattle.tx_client.specs.Learns.{response_by}
use Rattle.tx_ops.specs.Calls.{read_reply}
use Rattle.tx_reply.specs.declared.reply.ScriptReply.TheVariants as reply
use Rattle.tx_engine.proofs.Deliveries.{not_held, handed}
use Rattle.tx_engine.proofs.operations.delivery.deliver.Goals as goal

pub returns-in-None : goal.returns-in-None
returns-in-None g c = not_held g.J.JournalId.bounds c.args.name.now c.args.network.now c.deliver.new.self
    c.in-None.ensures.none.0 c.in-None.ensures.none.1

pub returns-in-Some-None : goal.returns-in-Some-None
returns-in-Some-None g c =
    let x = c.in-Some-None.ensures.some in
    handed g.J.JournalId.bounds c.args.name.now c.args.network.now c.deliver.new.self x.0 x.1 c.in-Some-None.field-0 x.2
    reply.OutOfMemory (ap (λ o. read_reply (response_by o)) c.in-Some-None.field-0-is)

pub returns-in-Some-Some : goal.returns-in-Some-Some
returns-in-Some-Some g c =
    let x = c.in-Some-Some.ensures.some in
    handed g.J.JournalId.bounds c.args.name.now c.args.network.now c.deliver.new.self x.0 x.1 c.in-Some-Some.field-0 x.2
    (reply.Answered c.in-Some-Some.answer) (ap (λ o. read_reply (response_by o)) c.in-Some-Some.field-0-is)
