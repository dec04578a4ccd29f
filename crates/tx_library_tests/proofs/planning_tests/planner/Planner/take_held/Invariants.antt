use Rattle.std.proofs.Common.{◌≡◌}
use Rattle.tx_library_tests.proofs.planning_tests.planner.Planner.take_held.Given as goal

-- the region is still that one
abbrev pub invariant-loop-request : goal.invariant-loop-request
invariant-loop-request g l = l.self.region.seat ≡ l.fn.self.region.seat
