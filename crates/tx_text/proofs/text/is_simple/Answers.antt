use Rattle.tx_text.proofs.Plains.{all_same}
use Rattle.tx_text.proofs.text.is_simple.Goals as goal

pub returns-clause-same : goal.returns-clause-same
returns-clause-same c = λ is. all_same c.args.bytes.now c.lanes.at c.lanes.invariant.1 (c.is_simple_from.ensures is)
