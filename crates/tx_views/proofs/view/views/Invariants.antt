-- What the reads of the transactions so far say.
use Rattle.std.proofs.Common.{◌≡◌, ℕ, ◌<◌, length, Contains}
use Rattle.tx_recording.specs.declared.recording.RecordedOutcome.TheVariants.{Ok as Committed}
use Rattle.tx_recording.specs.Recordings.{transaction_at, ops_of}
use Rattle.tx_views.specs.declared.view.RecordedView.{RecordedView}
use Rattle.tx_views.specs.Views.{IsViewOf, IsAnswered}
use Rattle.tx_views.proofs.view.views.Given as goal

abbrev pub invariant-loop-txn : goal.invariant-loop-txn
invariant-loop-txn l = record {
  only : (v : RecordedView) → Contains l.views.items v → IsViewOf l.recording v;
  all : (t p : ℕ) → t < l.txn → (transaction_at l.recording t).outcome ≡ Committed → p < length (ops_of l.recording t)
      → IsAnswered l.recording l.views.items t p;
}
