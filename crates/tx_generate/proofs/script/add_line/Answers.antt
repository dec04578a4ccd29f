use Rattle.tx_generate.proofs.script.add_line.Goals as goal

pub returns-in-Some-clause-begun : goal.returns-in-Some-clause-begun
returns-in-Some-clause-begun g c = c.in_ok-reply.ensures.begun c.tries.invariant.begun
