-- What versions hold. Only this crate's own clauses cite it.
use Rattle.std.specs.Prelude.{◌≡◌, ℕ, ◌+◌, ◌<◌, ◌≤◌, Bool, List, length, ◌-◌, Contains, IsTrue, zero, suc, slice_index, slice_index_or, slice_range}
use Rattle.tx_recording.specs.declared.recording.Span.{Span}
use Rattle.tx_recording.specs.declared.recording.Recording.{Recording}
use Rattle.tx_recording.specs.Recordings.{ops_of, list_of}
use Rattle.tx_recording.specs.Explanations.{after, IsPut}
use Rattle.tx_views.specs.declared.view.RecordedView.{RecordedView}
use Rattle.tx_history.specs.Histories.{HasVersion}
use Rattle.tx_history.specs.Records.{history_of, writers_of}
use Rattle.tx_clock.specs.KeptOrder.{live_in}
use Rattle.tx_verdict.specs.declared.versions.Versions.{Versions}

abbrev pub no_span : Span
no_span = record { first = 0; count = 0 }

-- where the values of a version lie
abbrev pub span_of : Versions → ℕ → ℕ → Span
span_of v k zero = no_span
span_of v k (suc i) = slice_index_or v.spans.items (slice_index v.recorded.heads.items k + i) no_span

abbrev pub text_in : List ℕ → Span → List ℕ
text_in texts span = slice_range texts span.first (span.first + span.count)

-- the values of a version
abbrev pub text_of : Versions → ℕ → ℕ → List ℕ
text_of v k i = text_in v.texts.items (span_of v k i)

abbrev pub live_of : Versions → ℕ → Bool
live_of v t = live_in v.live.items t

-- version i of k, which t wrote, is what t makes of the version before it
abbrev pub IsVersionFit : Recording → Versions → ℕ → ℕ → ℕ → Type 0
IsVersionFit r v k t i = IsTrue (live_of v t) × ((w : ℕ) × IsPut r t k w)
    × (text_of v k i ≡ after (ops_of r t) k (text_of v k (i - 1)))

abbrev pub IsKeyFit : Recording → Versions → ℕ → Type 0
IsKeyFit r v k = (i : ℕ) → i < length (writers_of v.recorded k)
    → IsVersionFit r v k (slice_index (writers_of v.recorded k) i) (i + 1)

-- t wrote a version of k
abbrev pub IsPlaced : Versions → ℕ → ℕ → Type 0
IsPlaced v t k = (i : ℕ) × HasVersion (history_of v.recorded) k i × ((history_of v.recorded).writer k i ≡ t)

-- what was seen is the version that was read
abbrev pub IsViewFit : Recording → Versions → RecordedView → Type 0
IsViewFit r v w = (i : ℕ) × (i ≤ length (writers_of v.recorded w.key))
    × Contains v.recorded.reads.items record { txn = w.txn; key = w.key; version = i }
    × (list_of r w.span ≡ text_of v w.key i)

abbrev pub no_view : RecordedView
no_view = record { txn = 0; key = 0; span = no_span }
