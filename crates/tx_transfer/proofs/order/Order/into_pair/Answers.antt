use Rattle.tx_transfer.proofs.SaidTransfers.{pair_by}
use Rattle.tx_transfer.proofs.order.Order.into_pair.Goals as goal

pub returns-clause-pair : goal.returns-clause-pair
returns-clause-pair g c = pair_by g.L.Source.text c.args.self.number _ c.args.self.said
