use Rattle.std.proofs.Common.{sym, subst}
use Rattle.tx_plan.specs.Walks.{IsLockWalk}
use Rattle.tx_cells.specs.Contents.{cells_in}
use Rattle.tx_nested.specs.Nested.{nested_content, lock_rows}
use Rattle.tx_nested.proofs.NestedRows.{lock_walk}
use Rattle.tx_nested.proofs.NestedCells.locks.Goals as goal

pub returns-clause-walk : goal.returns-clause-walk
returns-clause-walk c =
    subst (λ es. IsLockWalk (cells_in (nested_content c.args.self.now)) (lock_rows es)) (sym c.iter.ensures.rest)
    (lock_walk c.args.self.now.keys.entries c.iter.ensures.ordered)
