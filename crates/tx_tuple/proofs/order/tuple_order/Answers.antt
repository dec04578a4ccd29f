use Rattle.tx_tuple.proofs.Ordered.{tuples_keep_order}
use Rattle.tx_tuple.proofs.order.tuple_order.Goals as goal

pub returns : goal.returns
returns c = tuples_keep_order
