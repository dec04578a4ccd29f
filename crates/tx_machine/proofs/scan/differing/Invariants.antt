use Rattle.std.proofs.Common.{drop}
use Rattle.std.specs.Range.Bound.{bound_map}
use Rattle.tx_machine.proofs.Differences.{Ahead}
use Rattle.tx_machine.proofs.scan.differing.Given as goal

abbrev pub invariant-loop-row : goal.invariant-loop-row
invariant-loop-row l = Ahead l.index l.fates l.scan (bound_map (λ x. x.now) l.from) (drop l.row-index l.scan.rows)
