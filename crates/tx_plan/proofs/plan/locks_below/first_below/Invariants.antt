use Rattle.std.proofs.Common.{◌≡◌, length}
use Rattle.tx_plan.proofs.LockRows.{RowsStand, told_below}
use Rattle.tx_plan.proofs.plan.locks_below.first_below.Given as goal

-- no lock that was passed is told
abbrev pub invariant-locks : goal.invariant-locks
invariant-locks g l = record {
  same : g.L.LockWalk.cells l.walk ≡ g.L.LockWalk.cells l.fn.walk;
  there : RowsStand (g.L.LockWalk.cells l.fn.walk) (g.L.LockWalk.rest l.walk);
  told : told_below l.safe (g.L.LockWalk.rest l.walk) ≡ told_below l.safe (g.L.LockWalk.rest l.fn.walk);
}

abbrev pub decreases-locks : goal.decreases-locks
decreases-locks g l = length (g.L.LockWalk.rest l.walk)
