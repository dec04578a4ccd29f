use Rattle.std.proofs.Common.{[], take}
use Rattle.std.specs.Prelude.{Any}
use Rattle.tx_sheet.specs.Arrows.{GoesTo, Gains}
use Rattle.tx_sheet.proofs.arrows.arrows_of.Given as goal

abbrev pub invariant-takings : goal.invariant-takings
invariant-takings l = Gains [] l.arrows.items
    (λ x. Any (λ taking. GoesTo l.keys taking x) (take l.taking-index l.takings))
