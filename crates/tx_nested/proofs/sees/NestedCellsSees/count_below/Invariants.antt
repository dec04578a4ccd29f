use Rattle.std.proofs.Common.{length}
use Rattle.tx_plan.proofs.DropCounts.{DroppedTo}
use Rattle.tx_cells.specs.Contents.{cells_in}
use Rattle.tx_nested.specs.Nested.{nested_content, key_rows}
use Rattle.tx_nested.proofs.sees.NestedCellsSees.count_below.Given as goal

abbrev pub invariant-keys : goal.invariant-keys
invariant-keys l = DroppedTo (cells_in (nested_content l.self)) l.safe (key_rows l.keys) l.records l.values

abbrev pub decreases-keys : goal.decreases-keys
decreases-keys l = length l.keys
