use Rattle.std.proofs.Common.{◌≡◌, ◌++◌, length}
use Rattle.tx_cells.specs.Copies.{starts_down}
use Rattle.tx_nested.proofs.cells.starts.Given as goal

abbrev pub invariant-values : goal.invariant-values
invariant-values l = starts_down l.values.entries ≡ l.starts ++ starts_down l.entries

abbrev pub decreases-values : goal.decreases-values
decreases-values l = length l.entries
