use Rattle.tx_tuple.proofs.Ordered.{tuples_are_one}
use Rattle.tx_tuple.proofs.order.one_tuple.Goals as goal

pub returns : goal.returns
returns c = tuples_are_one
