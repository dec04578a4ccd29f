use Rattle.tx_client.proofs.Ordered.{commits_above}
use Rattle.tx_client.proofs.order.commits_above.Goals as goal

pub returns : goal.returns
returns c = commits_above
