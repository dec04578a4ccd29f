use Rattle.tx_codec.proofs.Ordered.{versions_keep_order}
use Rattle.tx_codec.proofs.order.version_order.Goals as goal

pub returns : goal.returns
returns c = versions_keep_order
