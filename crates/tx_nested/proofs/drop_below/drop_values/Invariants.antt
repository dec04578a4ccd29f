use Rattle.std.specs.BTreeMap as tree
use Rattle.std.specs.Ordering.{nat_cmp}
use Rattle.tx_nested.proofs.DropSteps.{SoFar}
use Rattle.tx_nested.proofs.drop_below.drop_values.Given as goal

abbrev pub invariant-records : goal.invariant-records
invariant-records l =
    SoFar (tree.get nat_cmp l.writes) (tree.get nat_cmp l.fn.values) l.fn.safe l.stay l.below
    (tree.get nat_cmp l.values)

abbrev pub decreases-records : goal.decreases-records
decreases-records l = l.below
