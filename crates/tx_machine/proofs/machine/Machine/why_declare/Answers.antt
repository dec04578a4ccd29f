use Rattle.tx_machine.proofs.Reasons.{why_declares_state, declares_ok}
use Rattle.tx_machine.proofs.machine.Machine.why_declare.Goals as goal

pub returns-in-Some-clause-ok : goal.returns-in-Some-clause-ok
returns-in-Some-clause-ok c =
    why_declares_state c.args.self.now c.args.t c.standing.result c.standing.ensures c.args.set.now c.in-Some.why
    c.in-Some.ensures.some

pub returns-in-None-clause-ok : goal.returns-in-None-clause-ok
returns-in-None-clause-ok c =
    declares_ok c.args.self.now c.args.t c.standing.result c.standing.ensures c.args.set.now c.as_slice.result.now
    c.as_slice.ensures c.in-None.ensures.none c.why_set.result c.why_set.ensures.ok
