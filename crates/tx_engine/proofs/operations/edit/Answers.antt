use Rattle.std.proofs.Common.{◌≡◌, ℕ, List, Option, Result, sym, subst}
use Rattle.std.specs.Borrow.{Bor}
use Rattle.tx_types.specs.declared.fault.Cause.{Cause}
use Rattle.tx_types.specs.declared.key.Key.{Key}
use Rattle.tx_client.specs.Calls.{Seated}
use Rattle.tx_steps.specs.declared.op.Op.{Op}
use Rattle.tx_steps.specs.Steps.{Text, acted}
use Rattle.tx_reply.specs.declared.reply.ScriptReply.{ScriptReply}
use Rattle.tx_network.specs.Networks.{NetworkParts}
use Rattle.tx_engine.specs.Semantics.{declares, edits}
use Rattle.tx_engine.specs.Slots.{Did}
use Rattle.tx_engine.proofs.Edits.{did_alone}
use Rattle.tx_engine.proofs.operations.edit.Goals as goal

-- what it did, it did of the operation that this is
is_op : (bounds : List Key) (op named : Op (Bor Text)) (r : Result ScriptReply Cause) (old new : Seated)
    (from to : NetworkParts) → op ≡ named → Did bounds (λ refused engine k s.
    edits refused engine k s bounds (acted named)) r old new from to
    → Did bounds (λ refused engine k s. edits refused engine k s bounds (acted op)) r old new from to
is_op bounds op named r old new from to is did = subst
    (λ o. Did bounds (λ refused engine k s. edits refused engine k s bounds (acted o)) r old new from to) (sym is) did

pub returns-in-Declare : goal.returns-in-Declare
returns-in-Declare g c =
    let bounds = g.J.JournalId.bounds in
    let old = c.args.session.now in
    let new = c.declare.new.session in
    let from = c.args.network.now in
    let to = c.declare.new.network in
    let did = subst (λ (most : Option ℕ). Did bounds (λ refused engine k s. declares refused engine k s bounds
    (record {
      mode = c.in-Declare.mode;
      ttl = c.in-Declare.ttl;
      max_commit = most;
    })) c.declare.result old new from to) c.stamp.ensures c.declare.ensures in
    is_op bounds c.args.op.now _ c.declare.result old new from to c.in-Declare.is did

pub returns-in-Draw : goal.returns-in-Draw
returns-in-Draw g c =
    is_op g.J.JournalId.bounds c.args.op.now _ c.draw.result c.args.session.now c.draw.new.session c.args.network.now
    c.draw.new.network c.in-Draw.is c.draw.ensures

pub returns-in_default : goal.returns-in_default
returns-in_default g c =
    did_alone g.J.JournalId.bounds c.args.session.now c.act.new.session c.args.network.now c.act.result c.args.op.now
    c.in_default.not-Declare c.in_default.not-Draw c.act.ensures
