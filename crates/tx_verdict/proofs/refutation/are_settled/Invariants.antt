-- With those so far, the rest makes the refutation.
use Rattle.std.proofs.Common.{[], drop}
use Rattle.tx_verdict.specs.Refutations.{IsRefutationBy}
use Rattle.tx_verdict.proofs.refutation.are_settled.Given as goal

abbrev pub invariant-loop-i : goal.invariant-loop-i
invariant-loop-i l = IsRefutationBy l.case.recording.now l.case.question l.known.items (drop l.i l.facts) l.refutation
    → IsRefutationBy l.case.recording.now l.case.question [] l.facts l.refutation
