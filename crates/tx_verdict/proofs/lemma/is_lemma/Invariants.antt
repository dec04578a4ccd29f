-- With those so far, the rest of the clause follows.
use Rattle.std.proofs.Common.{drop}
use Rattle.tx_verdict.specs.Refutations.{IsClauseBy, IsLemmaBy}
use Rattle.tx_verdict.proofs.lemma.is_lemma.Given as goal

abbrev pub invariant-loop-i : goal.invariant-loop-i
invariant-loop-i l = IsClauseBy l.case.recording.now l.case.question l.before l.all.items (drop l.i l.clause)
    l.lemma.hints.items
    l.lemma.round.items
    → IsLemmaBy l.case.recording.now l.case.question l.known l.before l.lemma
