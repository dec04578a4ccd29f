use Rattle.tx_region.proofs.BoundsBelow.{range_held}
use Rattle.tx_store.proofs.store.Store.index_of.Goals as goal

pub returns-in-Range : goal.returns-in-Range
returns-in-Range g c =
    let index = c.index-in-Range.ensures in (
      index.1,
      range_held (λ k. k.now) (λ s. s.now) c.target.result c.in-Range.scan
          g.J.JournalId.bounds c.args.body.now c.requires.0 c.index-in-Range.result c.target.ensures c.in-Range.is
          c.requires.2 index.0,
    )
