-- With those so far, the rest closes.
use Rattle.std.proofs.Common.{drop}
use Rattle.tx_verdict.specs.Refutations.{ClosesBy}
use Rattle.tx_verdict.proofs.lemma.closes_by.Given as goal

abbrev pub invariant-loop-i : goal.invariant-loop-i
invariant-loop-i l = ClosesBy l.case.recording.now l.case.question l.lemmas l.known.items (drop l.i l.hints) l.steps
    → ClosesBy l.case.recording.now l.case.question l.lemmas l.fn.known.items l.hints l.steps
