use Rattle.std.proofs.Common.{List, subst}
use Rattle.std.proofs.Common.{ℕ}
use Rattle.tx_flat.specs.Flats.{flat_content}
use Rattle.tx_cells.specs.Histories.{NoneSeen}
use Rattle.tx_cells.proofs.NewestValue.{none_found}
use Rattle.tx_flat.proofs.FlatCells.value_below.Goals as goal

pub returns-in_default-clause-value : goal.returns-in_default-clause-value
returns-in_default-clause-value c =
    let flat = c.args.self.now in
    none_found (flat_content flat c.args.key.now) c.args.at
    (subst (λ (k : List ℕ). NoneSeen (flat_content flat k).write c.args.at) c.requires c.in_default.ensures.seen)
