use Rattle.std.proofs.Common.{◌≢◌, Ok, sym, subst}
use Rattle.tx_reply.specs.declared.reply.ScriptReply.TheVariants as reply
use Rattle.tx_steps.specs.Steps.{called}
use Rattle.tx_ops.specs.Calls.{Said, call_walk}
use Rattle.tx_transfer.specs.Sends.{SendsOver}
use Rattle.tx_transfer.proofs.operations.send.Goals as goal

pub returns-clause-sends : goal.returns-clause-sends
returns-clause-sends g c =
    let bounds = g.J.JournalId.bounds in
    let old = c.args.session.now in
    let new = c.call.new.session in
    subst (λ (said : Said). SendsOver bounds old.seat (call_walk bounds old.state (called c.args.call))
    (new.state, said) new.seat) (sym c.told.ensures) c.call.ensures.sends

pub returns-clause-answered : goal.returns-clause-answered
returns-clause-answered g c =
    subst (λ (said : Said). said ≢ Ok reply.Lost) (sym c.told.ensures) c.call.ensures.answered

pub returns-clause-resolver : goal.returns-clause-resolver
returns-clause-resolver g c =
    c.call.ensures.keeps (λ x. x.resolver) (λ a b q reached is. λ i. (is.1 i).resolver)
