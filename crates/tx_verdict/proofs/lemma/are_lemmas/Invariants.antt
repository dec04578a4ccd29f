-- With those so far, the rest follows.
use Rattle.std.proofs.Common.{[], take, drop}
use Rattle.tx_verdict.specs.Refutations.{AreLemmasBy}
use Rattle.tx_verdict.proofs.lemma.are_lemmas.Given as goal

abbrev pub invariant-loop-i : goal.invariant-loop-i
invariant-loop-i l = AreLemmasBy l.case.recording.now l.case.question l.known (take l.i l.lemmas) (drop l.i
    l.lemmas) l.hints l.last
    → AreLemmasBy l.case.recording.now l.case.question l.known [] l.lemmas l.hints l.last
