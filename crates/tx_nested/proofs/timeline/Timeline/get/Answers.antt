-- The index of a timestamp holds what is found at it.
use Rattle.std.proofs.Common.{◌∙◌}
use Rattle.tx_nested.proofs.Lookups.{held_is}
use Rattle.tx_nested.proofs.timeline.Timeline.get.Goals as goal

pub returns : goal.returns
returns g c = c.value_in.ensures
    ∙ held_is c.args.self.now.entries c.args.at c.index.result c.index.ensures.ordered c.index.ensures.index
