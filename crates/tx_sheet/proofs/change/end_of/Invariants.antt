use Rattle.std.proofs.Common.{◌≤◌, drop, length}
use Rattle.std.specs.Prelude.{All, Contains}
use Rattle.tx_sheet.proofs.change.end_of.Given as goal

abbrev pub invariant-ends : goal.invariant-ends
invariant-ends l = (l.end ≤ length l.some) × (l.left ≤ length l.others) × All (Contains l.others) (drop l.end l.some)

abbrev pub decreases-ends : goal.decreases-ends
decreases-ends l = l.end
