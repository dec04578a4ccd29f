use Rattle.std.proofs.Common.{◌+◌, ◌-◌, ◌≤◌, length, IfSome}
use Rattle.tx_types.specs.declared.limits.TheConstants.{MAX_LINES}
use Rattle.tx_import.specs.Drafts.{FitsDraft}
use Rattle.tx_import.proofs.ReadLines.{SoFar}
use Rattle.tx_import.proofs.reader.read_history.Given as goal

abbrev pub invariant-lines : goal.invariant-lines
invariant-lines g l =
    (l.number ≤ MAX_LINES) × (length l.draft.transactions.items ≤ l.number) × FitsDraft l.draft
    × IfSome (g.R.Read.remaining l.fn.reader) (λ input. SoFar input (g.R.Read.remaining l.reader) l.draft l.number)

abbrev pub decreases-lines : goal.decreases-lines
decreases-lines g l = (MAX_LINES + 1) - l.number
