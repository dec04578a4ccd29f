use Rattle.std.proofs.Common.{◌≡◌, ◌++◌, length}
use Rattle.tx_plan.proofs.LockRows.{RowsStand, told_below}
use Rattle.tx_plan.proofs.plan.locks_below.infos_below.Given as goal

-- what is told so far and what the rest of the walk tells are what the whole walk tells
abbrev pub invariant-locks : goal.invariant-locks
invariant-locks g l = record {
  same : g.L.LockWalk.cells l.walk ≡ g.L.LockWalk.cells l.fn.walk;
  there : RowsStand (g.L.LockWalk.cells l.fn.walk) (g.L.LockWalk.rest l.walk);
  told : l.infos ++ told_below l.safe (g.L.LockWalk.rest l.walk) ≡ told_below l.safe (g.L.LockWalk.rest l.fn.walk);
}

abbrev pub decreases-locks : goal.decreases-locks
decreases-locks g l = length (g.L.LockWalk.rest l.walk)
