-- Those so far follow one another; and while all saw the one before, that is known of each.
use Rattle.std.proofs.Common.{ℕ, ◌+◌, ◌<◌, IsTrue}
use Rattle.tx_history.specs.Records.{writers_of}
use Rattle.tx_verdict.specs.Reasons.{IsBased}
use Rattle.tx_verdict.specs.Forced.{IsLinked}
use Rattle.tx_verdict.proofs.chain.is_chain.Given as goal

abbrev pub invariant-loop-i : goal.invariant-loop-i
invariant-loop-i l = record {
  links : (i : ℕ) → i + 1 < l.i → IsLinked l.case.recording.now l.key (writers_of l.versions.recorded l.chain) i;
  based : IsTrue l.known → (i : ℕ) → i < l.i → IsBased l.case.recording.now l.key (writers_of
      l.versions.recorded l.chain) i;
}
