use Rattle.tx_client.proofs.Ordered.{starts_above, reads_known}
use Rattle.tx_client.proofs.order.starts_above.Goals as goal

pub returns : goal.returns
returns c = record { starts = starts_above; reads = reads_known }
