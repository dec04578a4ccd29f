use Rattle.tx_nested.specs.Nested.{held}
use Rattle.tx_cells.proofs.NewestValue.{none_found}
use Rattle.tx_nested.proofs.key.KeyFamilies.value_searched.Goals as goal

pub returns-in_default-clause-value : goal.returns-in_default-clause-value
returns-in_default-clause-value c = none_found (held c.args.self.now) c.args.at c.in_default.ensures.seen
