use Rattle.std.proofs.Common.{◌≡◌}
use Rattle.tx_library_tests.proofs.planning_tests.planner.Planner.plan.Given as goal

-- it is still the request that was handed in, and the region is still that one
abbrev pub invariant-loop-try : goal.invariant-loop-try
invariant-loop-try g l = (l.request ≡ l.fn.request) × (l.self.region.seat ≡ l.fn.self.region.seat)
