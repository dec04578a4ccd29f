use Rattle.std.proofs.Common.{sym, subst}
use Rattle.tx_plan.specs.Walks.{IsLockWalk}
use Rattle.tx_cells.specs.Contents.{cells_in}
use Rattle.tx_flat.specs.Flats.{flat_content, lock_rows_in}
use Rattle.tx_flat.proofs.FlatRows.{flat_walk}
use Rattle.tx_flat.proofs.FlatCells.walk_locks.Goals as goal

pub returns-clause-walk : goal.returns-clause-walk
returns-clause-walk c =
    let content = flat_content c.args.self.now in
    subst (λ es. IsLockWalk (cells_in content) (lock_rows_in content es)) (sym c.iter.ensures.rest)
    (flat_walk c.args.self.now c.iter.ensures.ordered)
