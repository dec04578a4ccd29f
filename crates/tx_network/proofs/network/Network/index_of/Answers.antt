use Rattle.tx_region.proofs.BoundsBelow.{range_held}
use Rattle.tx_network.proofs.network.Network.index_of.Goals as goal

pub returns-in-Range-clause-holds : goal.returns-in-Range-clause-holds
returns-in-Range-clause-holds g c =
    range_held (λ k. k.now) (λ s. s.now) c.target.result c.in-Range.scan g.J.JournalId.bounds c.args.body.now
    c.requires.0 c.index-in-Range.result c.target.ensures c.in-Range.is c.requires.2 c.index-in-Range.ensures.0
