use Rattle.std.proofs.Common.{◌+◌, ◌-◌, ◌≤◌, IfSome}
use Rattle.tx_types.specs.declared.limits.TheConstants.{MAX_LINES}
use Rattle.tx_check.proofs.Onward.{AllSoFar}
use Rattle.tx_check.proofs.all.walk_on.Given as goal

abbrev pub invariant-lines : goal.invariant-lines
invariant-lines g l =
    (l.number ≤ MAX_LINES)
    × IfSome (g.R.Read.remaining l.fn.reader)
    (λ input. AllSoFar l.has_reasons input (g.R.Read.remaining l.reader) l.machine l.number l.text.items l.is_refused)

abbrev pub decreases-lines : goal.decreases-lines
decreases-lines g l = (MAX_LINES + 1) - l.number
