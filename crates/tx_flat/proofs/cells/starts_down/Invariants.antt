use Rattle.std.proofs.Common.{◌≡◌, ℕ}
use Rattle.std.specs.BTreeMap as tree
use Rattle.tx_spelling.specs.Spelt.{version_cmp}
use Rattle.tx_cells.proofs.NewestFirst.{Down, HasStart}
use Rattle.tx_flat.proofs.cells.starts_down.Given as goal

abbrev pub invariant-values : goal.invariant-values
invariant-values l = record {
  same_key : l.version.0 ≡ l.fn.version.0;
  down : Down (λ (t : ℕ). t) (HasStart (tree.get version_cmp l.fn.values) l.fn.version.0) l.bound l.starts l.starts;
}

abbrev pub decreases-values : goal.decreases-values
decreases-values l = l.bound
