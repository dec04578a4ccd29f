-- All that was looked at together.
use Rattle.std.proofs.Common.{◌≡◌, ℕ, ◌+◌, ◌-◌, ◌<◌, ◌≤◌, Bool, false, List, Contains, arith, inl, inr, refl, sym, ap, ◌∙◌, subst, IsTrue, slice_index, slice_index_or}
use Rattle.std.proofs.lemmas.Bool.{cases_lt, false≢true}
use Rattle.std.proofs.lemmas.List.{get_or_past}
use Rattle.tx_recording.specs.declared.recording.RecordedOutcome.TheVariants.{Ok as Committed, Fail as Failed}
use Rattle.tx_recording.specs.declared.recording.RecordedTransaction.{RecordedTransaction}
use Rattle.tx_recording.specs.declared.recording.Recording.{Recording}
use Rattle.tx_recording.specs.Recordings.{txns_of, transaction_at, no_transaction, ops_of}
use Rattle.tx_recording.specs.Explanations.{after, IsPut, Precedes}
use Rattle.tx_views.specs.declared.view.RecordedView.{RecordedView}
use Rattle.tx_views.specs.Views.{AreViews}
use Rattle.tx_history.specs.declared.recorded.Read.{Read}
use Rattle.tx_history.specs.Histories.{IsAssignment}
use Rattle.tx_history.specs.Records.{history_of, writers_of}
use Rattle.tx_verdict.specs.declared.question.Level.TheVariants.{Serializable}
use Rattle.tx_verdict.specs.declared.question.Question.{Question}
use Rattle.tx_verdict.specs.declared.versions.Versions.{Versions}
use Rattle.tx_verdict.specs.declared.verdict.Timestamps.{Timestamps}
use Rattle.tx_verdict.specs.Versions.{text_of, live_of, IsKeyFit, IsPlaced, IsViewFit}
use Rattle.tx_verdict.specs.Fits.{IsFit, AreInTurn, last_by}
use Rattle.tx_verdict.specs.Forced.{AreForced, IsChain, IsReadForced, key_of}
use Rattle.tx_verdict.specs.Questions.{ExplainsAt}
use Rattle.tx_verdict.specs.Verdicts.{AreTimestampsOf}
use Rattle.tx_verdict.proofs.Fits.{explains_so}
use Rattle.tx_clock.specs.KeptOrder.{KeepsPairs}
use Rattle.tx_verdict.specs.Reasons.{IsBehind}

pub fit_of : (r : Recording) (views : List RecordedView) (v : Versions) → txns_of r ≤ v.recorded.txns
    → ((t : ℕ) → t < txns_of r → (transaction_at r t).outcome ≡ Committed → IsTrue (live_of v t))
    → ((t : ℕ) → (transaction_at r t).outcome ≡ Failed → live_of v t ≡ false)
    → ((t k w : ℕ) → t < txns_of r → IsTrue (live_of v t) → IsPut r t k w → IsPlaced v t k)
    → ((w : RecordedView) → Contains views w → IsViewFit r v w) → ((k : ℕ) → IsKeyFit r v k)
    → IsFit r views (history_of v.recorded) (live_of v) (text_of v)
fit_of r views v enough ok fail placed seen keys = record {
  txns = enough;
  ok = ok;
  fail = fail;
  none = λ k. refl;
  writers = λ k i has. (let low = has.0 in
      let high = has.1 in
      let fit = keys k (i - 1) (omega (arith, low, high)) in
      (fit.0, fit.1));
  leaves = λ k i has. (let high = has.1 in
      let fit = keys k i (omega (arith, high)) in
      let back : i ≡ i + 1 - 1 = omega arith in
      let P : ℕ → Type 0 = λ q. text_of v k (i + 1) ≡ after (ops_of r (slice_index (writers_of v.recorded k) q)) k
      (text_of v k i) in
      let Q : ℕ → Type 0 = λ q. text_of v k (i + 1) ≡ after (ops_of r (slice_index (writers_of v.recorded k) i)) k
      (text_of v k q) in
      subst P back (subst Q (sym back) fit.2));
  placed = λ t k w live put. elim (cases_lt t (txns_of r)) [
    | inl lt ↦ placed t k w lt live put
    | inr past ↦ absurd (false≢true (sym (fail t (ap (λ (q : RecordedTransaction). q.outcome)
        (get_or_past r.transactions.items t no_transaction past))) ∙ live))
  ];
  reads = seen;
}

pub forced_of : (r : Recording) (v : Versions) → ((q : ℕ) → IsChain r v q)
    → ((p : Read) → Contains v.recorded.reads.items p → IsReadForced r v p)
    → AreForced r (history_of v.recorded) (key_of v)
forced_of r v chains reads = record {
  writers = λ k i has. (let low = has.0 in
      let high = has.1 in
      (chains k).0 (i - 1) (omega (arith, low, high)));
  steps = λ k i has more. (let low = has.0 in
      let high = more.1 in
      let link = (chains k).1 (i - 1) (omega (arith, low, high)) in
      let next : i - 1 + 1 ≡ i + 1 - 1 = omega (arith, low) in
      let P : ℕ → Type 0 = λ q. IsBehind r (key_of v k) (slice_index (writers_of v.recorded k) (i - 1))
      (slice_index (writers_of v.recorded k) q) in
      subst P next link);
  seen = λ p is has. (reads p is).1 has;
  none = λ p is none. (reads p is).2 none;
  readers = λ p is. (reads p is).0;
}

pub timestamps_of : (r : Recording) (asked : Question) (views : List RecordedView) (v : Versions)
    (starts commits : List ℕ)
    (t : Timestamps)
    → t.committed.items ≡ v.live.items → t.starts.items ≡ starts → t.commits.items ≡ commits → AreViews r views
    → IsFit r views (history_of v.recorded) (live_of v) (text_of v)
    → IsAssignment (history_of v.recorded) (slice_index starts) (slice_index commits)
    → KeepsPairs (Precedes r asked.orders) v.live.items starts commits
    → (asked.level ≡ Serializable → AreInTurn v.live.items starts commits) → AreTimestampsOf r asked t
timestamps_of r asked views v starts commits t live_is starts_is commits_is seen fit a keeps serial =
    let left : ℕ → ℕ → List ℕ =
    λ u k. text_of v k (last_by ((history_of v.recorded).writer k) ((history_of v.recorded).count k) u) in
    let so = explains_so r asked.orders views (history_of v.recorded) (live_of v) (text_of v) (slice_index starts)
    (slice_index commits) seen fit a
    keeps in
    let P : List Bool → Type 0 = λ z. ExplainsAt r asked record {
      committed = λ i. slice_index_or z i false;
      start = slice_index starts;
      commit = slice_index commits;
      left = left;
    } in
    let Q : List ℕ → Type 0 = λ z. ExplainsAt r asked record {
      committed = λ i. slice_index_or t.committed.items i false;
      start = slice_index z;
      commit = slice_index commits;
      left = left;
    } in
    let R : List ℕ → Type 0 = λ z. ExplainsAt r asked record {
      committed = λ i. slice_index_or t.committed.items i false;
      start = slice_index t.starts.items;
      commit = slice_index z;
      left = left;
    } in
    (left, subst R (sym commits_is) (subst Q (sym starts_is) (subst P (sym live_is) (so, serial))))
