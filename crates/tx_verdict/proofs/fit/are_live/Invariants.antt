-- Those so far are live as is known.
use Rattle.std.proofs.Common.{◌≡◌, ℕ, ◌<◌, IsTrue, false}
use Rattle.tx_recording.specs.declared.recording.RecordedOutcome.TheVariants.{Ok as Committed, Fail as Failed}
use Rattle.tx_recording.specs.Recordings.{transaction_at}
use Rattle.tx_verdict.specs.Versions.{live_of}
use Rattle.tx_verdict.proofs.fit.are_live.Given as goal

abbrev pub invariant-loop-txn : goal.invariant-loop-txn
invariant-loop-txn l = record {
  ok : (t : ℕ) → t < l.txn → (transaction_at l.recording t).outcome ≡ Committed → IsTrue (live_of l.versions t);
  fail : (t : ℕ) → t < l.txn → (transaction_at l.recording t).outcome ≡ Failed → live_of l.versions t ≡ false;
}
