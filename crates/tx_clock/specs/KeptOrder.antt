-- When timestamps keep an order.
use Rattle.std.specs.Prelude.{◌≡◌, ℕ, ◌<◌, ◌≤◌, Bool, true, false, List, length, Contains, Some, IsTrue, slice_index, slice_index_or}
use Rattle.std.specs.List.Sorted.{IsNonDecreasingBy}
use Rattle.tx_recording.specs.declared.recording.RecordedOutcome.TheVariants.{Ok}
use Rattle.tx_recording.specs.declared.recording.Recording.{Recording}
use Rattle.tx_recording.specs.Recordings.{txns_of, transaction_at}
use Rattle.tx_clock.specs.declared.clock.ClockEvent.{ClockEvent}

-- whether it is live, by a table
abbrev pub live_in : List Bool → ℕ → Bool
live_in live t = slice_index_or live t false

-- of two live ones in this order the first commits at or below the start of the second
abbrev pub KeepsPairs : (ℕ → ℕ → Type 0) → List Bool → List ℕ → List ℕ → Type 0
KeepsPairs P live starts commits = (t u : ℕ) → P t u → IsTrue (live_in live t) → IsTrue (live_in live u)
    → slice_index commits t ≤ slice_index starts u

-- that each live one began, and each one ended that is known to have committed, in the order of
-- time
pub record AreEvents (r : Recording) (live : List Bool) (events : List ClockEvent) : Type 0 where
  pub begun : (u b : ℕ) → u < txns_of r → IsTrue (live_in live u) → (transaction_at r u).began ≡ Some b
      → Contains events record { time = b; txn = u; ends = false }
  pub ended : (t e : ℕ) → t < txns_of r → (transaction_at r t).outcome ≡ Ok → (transaction_at r t).ended ≡ Some e
      → Contains events record { time = e; txn = t; ends = true }
  pub rising : IsNonDecreasingBy (λ (e : ClockEvent). e.time) events

abbrev pub event_at : List ClockEvent → ℕ → ClockEvent
event_at events i = slice_index_or events i record { time = 0; txn = 0; ends = false }

-- of two the first ends, and the second begins
abbrev pub KeepsEvents : List ClockEvent → List ℕ → List ℕ → Type 0
KeepsEvents events starts commits = (i j : ℕ) → i < j → j < length events → (event_at events i).ends ≡ true
    → (event_at events j).ends ≡ false
    → slice_index commits (event_at events i).txn ≤ slice_index starts (event_at events j).txn
