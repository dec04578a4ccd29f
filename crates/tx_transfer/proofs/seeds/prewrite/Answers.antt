use Rattle.tx_transfer.proofs.seeds.prewrite.Goals as goal

pub returns-clause-sends : goal.returns-clause-sends
returns-clause-sends g c = (c.prewrite-answered.result, c.was_sent.ensures.is, c.prewrite-answered.ensures.over)
