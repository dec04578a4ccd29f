use Rattle.std.proofs.Common.{◌+◌, ◌-◌, ◌≤◌, IfSome}
use Rattle.tx_types.specs.declared.limits.TheConstants.{MAX_LINES}
use Rattle.tx_check.proofs.Traces.{SoFar}
use Rattle.tx_check.proofs.checker.walk.Given as goal

abbrev pub invariant-lines : goal.invariant-lines
invariant-lines g l =
    (l.number ≤ MAX_LINES)
    × IfSome (g.R.Read.remaining l.fn.reader) (λ input. SoFar input (g.R.Read.remaining l.reader) l.machine l.number)

abbrev pub decreases-lines : goal.decreases-lines
decreases-lines g l = (MAX_LINES + 1) - l.number
