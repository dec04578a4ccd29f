use Rattle.tx_machine.proofs.Reasons.{why_answers}
use Rattle.tx_machine.proofs.machine.Machine.why_answer.Goals as goal

pub returns : goal.returns
returns c = why_answers c.args.self.now c.args.t c.standing.result c.standing.ensures c.args.fate c.unless.result
    c.unless.ensures.some c.unless.ensures.none
