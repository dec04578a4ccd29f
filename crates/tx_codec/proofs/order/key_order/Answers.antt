use Rattle.tx_codec.proofs.Ordered.{keys_keep_order}
use Rattle.tx_codec.proofs.order.key_order.Goals as goal

pub returns : goal.returns
returns c = keys_keep_order
