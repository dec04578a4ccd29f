use Rattle.tx_machine.proofs.Reasons.{why_begins}
use Rattle.tx_machine.proofs.machine.Machine.why_begin.Goals as goal

pub returns : goal.returns
returns c = why_begins c.args.self.now c.args.t c.standing.result c.standing.ensures c.unless.result
    c.unless.ensures.some c.unless.ensures.none
