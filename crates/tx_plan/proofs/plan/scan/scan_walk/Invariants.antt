use Rattle.std.proofs.Common.{◌≡◌, length}
use Rattle.tx_plan.proofs.Scans.{Scanned}
use Rattle.tx_plan.proofs.plan.scan.scan_walk.Given as goal

-- what the scan has found so far, of the same region
abbrev pub invariant-keys : goal.invariant-keys
invariant-keys g l = record {
  same : g.W.ReadWalk.cells l.walk ≡ g.W.ReadWalk.cells l.fn.walk;
  found : Scanned (g.W.ReadWalk.cells l.fn.walk) l.body (g.W.ReadWalk.rest l.walk) l.rows;
}

abbrev pub decreases-keys : goal.decreases-keys
decreases-keys g l = length (g.W.ReadWalk.rest l.walk)
