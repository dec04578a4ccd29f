-- The entry before the index of the bound is the last below it.
use Rattle.std.proofs.Common.{ap}
use Rattle.std.specs.Prelude.{is_some}
use Rattle.tx_nested.proofs.Lookups.{before_found, before_newest, none_below}
use Rattle.tx_nested.proofs.timeline.Timeline.below.Goals as goal

pub returns-in-Some-clause-found : goal.returns-in-Some-clause-found
returns-in-Some-clause-found g c =
    let found = before_found c.args.self.now.entries c.args.bound c.index-index.result c.index-index.ensures.ordered
    c.index-index.ensures.index _ c.in-Some.ensures.entry in
    (found.0, ap is_some found.1)

pub returns-in-Some-clause-newest : goal.returns-in-Some-clause-newest
returns-in-Some-clause-newest g c =
    before_newest c.args.self.now.entries c.args.bound c.index-index.result c.index-index.ensures.ordered
    c.index-index.ensures.index _ c.in-Some.ensures.entry

pub returns-in-None-clause-none : goal.returns-in-None-clause-none
returns-in-None-clause-none g c =
    none_below c.args.self.now.entries c.args.bound c.index-index.result c.index-index.ensures.ordered
    c.index-index.ensures.index c.in-None.ensures.none
