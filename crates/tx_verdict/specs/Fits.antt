-- When timestamps of a history explain a recording. Only this crate's own clauses cite it.
use Rattle.std.specs.Prelude.{◌≡◌, ◌≢◌, ◌⊎◌, ℕ, ◌+◌, ◌<◌, ◌≤◌, ◌==◌, Bool, false, cond, List, [], Contains, IsTrue, zero, suc, slice_index}
use Rattle.tx_recording.specs.declared.recording.RecordedOutcome.TheVariants.{Ok, Fail}
use Rattle.tx_recording.specs.declared.recording.Recording.{Recording}
use Rattle.tx_recording.specs.Recordings.{txns_of, transaction_at, ops_of, list_of}
use Rattle.tx_recording.specs.Explanations.{after, IsPut, Explanation}
use Rattle.tx_views.specs.declared.view.RecordedView.{RecordedView}
use Rattle.tx_history.specs.Histories.{History, HasVersion}
use Rattle.tx_clock.specs.KeptOrder.{live_in}

-- The history is the recording's where the live transactions committed: each version is what its
-- writer makes of the version before it, who puts into a key wrote a version of it, and what was
-- seen is the version that was read.
pub record IsFit (r : Recording) (views : List RecordedView) (h : History) (live : ℕ → Bool)
    (text : ℕ → ℕ → List ℕ) : Type 0 where
  pub txns : txns_of r ≤ h.txns
  pub ok : (t : ℕ) → t < txns_of r → (transaction_at r t).outcome ≡ Ok → IsTrue (live t)
  pub fail : (t : ℕ) → (transaction_at r t).outcome ≡ Fail → live t ≡ false
  pub none : (k : ℕ) → text k 0 ≡ []
  pub writers : (k i : ℕ) → HasVersion h k i → IsTrue (live (h.writer k i)) × ((v : ℕ) × IsPut r (h.writer k i) k v)
  pub leaves : (k i : ℕ) → HasVersion h k (i + 1)
      → text k (i + 1) ≡ after (ops_of r (h.writer k (i + 1))) k (text k i)
  pub placed : (t k v : ℕ) → IsTrue (live t) → IsPut r t k v → (i : ℕ) × HasVersion h k i × (h.writer k i ≡ t)
  pub reads : (v : RecordedView) → Contains views v → (i : ℕ) × (i ≤ h.count v.key)
      × Contains h.reads record { txn = v.txn; key = v.key; version = i } × (list_of r v.span ≡ text v.key i)

-- of two live ones one starts when the other has committed
abbrev pub AreInTurn : List Bool → List ℕ → List ℕ → Type 0
AreInTurn live starts commits = (t u : ℕ) → IsTrue (live_in live t) → IsTrue (live_in live u) → t ≢ u
    → (slice_index commits t ≤ slice_index starts u) ⊎ (slice_index commits u ≤ slice_index starts t)

-- each live one is the one that a table has of its start, and commits right behind it
abbrev pub CommitAtOnce : List ℕ → List Bool → List ℕ → List ℕ → Type 0
CommitAtOnce starters live starts commits = (t : ℕ) → IsTrue (live_in live t)
    → (slice_index starters (slice_index starts t) ≡ t) × (slice_index commits t ≡ slice_index starts t + 1)

-- the last of the first n versions that t wrote, and 0 where there is none
abbrev pub last_by : (ℕ → ℕ) → ℕ → ℕ → ℕ
last_by writer zero t = 0
last_by writer (suc n) t = cond (writer (suc n) == t) (suc n) (last_by writer n t)

-- the explanation that timestamps of the history give
abbrev pub explanation_of : History → (ℕ → Bool) → (ℕ → ℕ → List ℕ) → (ℕ → ℕ) → (ℕ → ℕ) → Explanation
explanation_of h live text start commit = record {
  committed = live;
  start = start;
  commit = commit;
  left = λ t k. text k (last_by (h.writer k) (h.count k) t);
}
