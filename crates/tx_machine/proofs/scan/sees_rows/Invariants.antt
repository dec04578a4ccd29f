use Rattle.std.proofs.Common.{◌↔◌, drop}
use Rattle.std.specs.Cmp.Lexicographic.{slice_cmp}
use Rattle.std.specs.Ordering.{nat_cmp}
use Rattle.std.specs.declared.ops.Bound.TheVariants.{Included}
use Rattle.std.specs.Range.Bound.{bound_map}
use Rattle.std.specs.BTreeMap.Range.{IsFromStart}
use Rattle.tx_machine.proofs.Scans.{Walks}
use Rattle.tx_machine.proofs.scan.sees_rows.Given as goal

abbrev pub invariant-loop-row : goal.invariant-loop-row
invariant-loop-row l =
    IsFromStart (slice_cmp nat_cmp) (bound_map (λ x. x.now) l.from) l.scan.to
    × (Walks l.index l.fates l.scan (Included l.scan.from) l.scan.rows
    ↔ Walks l.index l.fates l.scan (bound_map (λ x. x.now) l.from) (drop l.row-index l.scan.rows))
