use Rattle.tx_tuple.proofs.Ordered.{prefixes_are_tuples}
use Rattle.tx_tuple.proofs.order.prefixes.Goals as goal

pub returns : goal.returns
returns c = prefixes_are_tuples
