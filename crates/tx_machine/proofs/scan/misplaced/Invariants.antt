use Rattle.std.proofs.Common.{drop}
use Rattle.std.specs.declared.ops.Bound.TheVariants.{Included}
use Rattle.std.specs.Range.Bound.{bound_map}
use Rattle.tx_types.specs.declared.key.Key.{Key}
use Rattle.tx_machine.specs.Why.{AreInPlace, IsMisplaced}
use Rattle.tx_machine.proofs.scan.misplaced.Given as goal

abbrev pub invariant-loop-row : goal.invariant-loop-row
invariant-loop-row l =
    ((k : Key) → IsMisplaced (bound_map (λ x. x.now) l.from) l.scan.to (drop l.row-index l.scan.rows) k
    → IsMisplaced (Included l.scan.from) l.scan.to l.scan.rows k)
    × (AreInPlace (bound_map (λ x. x.now) l.from) l.scan.to (drop l.row-index l.scan.rows)
    → AreInPlace (Included l.scan.from) l.scan.to l.scan.rows)
