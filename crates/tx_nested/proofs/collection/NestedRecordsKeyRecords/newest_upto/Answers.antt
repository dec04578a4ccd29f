use Rattle.tx_nested.specs.Nested.{held}
use Rattle.tx_cells.proofs.RecordKinds.{next_found}
use Rattle.tx_nested.proofs.collection.NestedRecordsKeyRecords.newest_upto.Goals as goal

pub returns-clause-newest : goal.returns-clause-newest
returns-clause-newest c =
    let key = c.args.self.now.key.now in
    next_found (held key) key.whole c.args.bound c.kind_upto.result c.kind_upto.ensures.found
    c.kind_upto.ensures.nearest c.kind_upto.ensures.none
