-- What the reads so far say.
use Rattle.std.proofs.Common.{ℕ, ◌<◌, Contains}
use Rattle.tx_views.specs.declared.view.RecordedView.{RecordedView}
use Rattle.tx_views.specs.Views.{IsViewOf, IsAnswered}
use Rattle.tx_views.proofs.view.add_views.Given as goal

abbrev pub invariant-loop-place : goal.invariant-loop-place
invariant-loop-place l = record {
  kept : (v : RecordedView) → Contains l.fn.views.items v → Contains l.views.items v;
  only : (v : RecordedView) → Contains l.views.items v → IsViewOf l.recording v;
  answered : (p : ℕ) → p < l.place → IsAnswered l.recording l.views.items l.txn p;
}
