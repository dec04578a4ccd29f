use Rattle.std.proofs.Common.{Result, sym, subst}
use Rattle.tx_types.specs.declared.fault.Cause.{Cause}
use Rattle.tx_reply.specs.declared.reply.ScriptReply.{ScriptReply}
use Rattle.tx_engine.specs.Semantics.{declares}
use Rattle.tx_engine.specs.Slots.{Did}
use Rattle.tx_engine.proofs.SessionTurns.{declare_late, declared_ok, declared_err}
use Rattle.tx_engine.proofs.operations.declare.Goals as goal
use Rattle.tx_engine.proofs.operations.declare.Goals.{in-Ok, in-Err}

pub returns-then-is_declared : goal.returns-then-is_declared
returns-then-is_declared g c = declare_late g.J.JournalId.bounds c.args.session.now c.args.network.now c.args.terms
    (sym c.if-is_declared.ensures)

pub returns : goal.returns
returns g c =
    let bounds = g.J.JournalId.bounds in
    let old = c.args.session.now in
    let new = c.declare_at.new.session in
    let from = c.args.network.now in
    let to = c.declare_at.new.network in
    let free = sym c.if-is_declared.ensures in
    elim c.match-declare_at.branch [
      | in-Ok w ↦ subst (λ (r : Result ScriptReply Cause). Did bounds (λ refused engine k s.
          declares refused engine k s bounds c.args.terms) r old new from to) (sym w.result-is)
          (declared_ok bounds old new from to c.args.terms free w.in-Ok.ensures.ok.0 w.in-Ok.ensures.ok.1)
      | in-Err w ↦ subst (λ (r : Result ScriptReply Cause). Did bounds (λ refused engine k s.
          declares refused engine k s bounds c.args.terms) r old new from to) (sym w.result-is)
          (declared_err bounds old new from to c.args.terms free w.in-Err.ensures.err.1 w.in-Err.ensures.err.2
          w.in-Err.ensures.err.3)
    ]
