use Rattle.std.proofs.Common.{◌≡◌, ◌+◌, ◌-◌, ◌≤◌, IfSome, length}
use Rattle.tx_types.specs.declared.limits.TheConstants.{MAX_LINES}
use Rattle.tx_check.proofs.Walks.{KeptSoFar}
use Rattle.tx_check.proofs.explanation.walk_kept.Given as goal

abbrev pub invariant-lines : goal.invariant-lines
invariant-lines g l =
    (l.number ≤ MAX_LINES) × (length l.steps.items ≡ l.number)
    × IfSome (g.R.Read.remaining l.fn.reader)
    (λ input. KeptSoFar input (g.R.Read.remaining l.reader) l.machine l.number l.steps.items)

abbrev pub decreases-lines : goal.decreases-lines
decreases-lines g l = (MAX_LINES + 1) - l.number
