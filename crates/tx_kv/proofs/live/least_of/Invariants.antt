use Rattle.std.proofs.Common.{◌≤◌}
use Rattle.tx_kv.proofs.live.least_of.Given as goal

-- it lies at most there so far
abbrev pub invariant-loop-place : goal.invariant-loop-place
invariant-loop-place l = l.least ≤ l.fn.upto
