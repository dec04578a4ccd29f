use Rattle.std.proofs.Common.{◌<◌}
use Rattle.tx_sheet.specs.Arrows.{GoesTo, Gains}
use Rattle.tx_sheet.proofs.arrows.put_arrows.Given as goal

abbrev pub invariant-keys : goal.invariant-keys
invariant-keys l = Gains l.fn.arrows.items l.arrows.items (λ x. GoesTo l.keys l.taking x × (x.key < l.place))
