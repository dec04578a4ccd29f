-- Keys of which two puts may have come in two orders.
use Rattle.std.specs.Prelude.{◌≡◌, ◌≢◌, ◌⊎◌, ℕ, ◌<◌, List, length, Contains, slice_index_or}
use Rattle.tx_recording.specs.declared.recording.RecordedOutcome.TheVariants.{Ok, Info}
use Rattle.tx_recording.specs.declared.recording.RecordedOp.{RecordedOp}
use Rattle.tx_recording.specs.declared.recording.Recording.{Recording}
use Rattle.tx_recording.specs.Recordings.{transaction_at, ops_of, no_op}
use Rattle.tx_recording.specs.Explanations.{Puts, IsPut}

-- the first of the operations on k puts into it
abbrev pub PutsFirst : List RecordedOp → ℕ → Type 0
PutsFirst os k = (p : ℕ) × (v : ℕ) × (p < length os) × ((slice_index_or os p no_op).key ≡ k)
    × Puts (slice_index_or os p no_op).act v × ((q : ℕ) → q < p → (slice_index_or os q no_op).key ≢ k)

-- t put into k, and had not read it, or may have committed, and what it read is not known
abbrev pub IsBlind : Recording → ℕ → ℕ → Type 0
IsBlind r t k = (((transaction_at r t).outcome ≡ Ok) × PutsFirst (ops_of r t) k)
    ⊎ (((transaction_at r t).outcome ≡ Info) × ((v : ℕ) × IsPut r t k v))

-- two such transactions put into each of the keys
abbrev pub IsUndecided : Recording → ℕ → Type 0
IsUndecided r k = (t : ℕ) × (u : ℕ) × (t ≢ u) × IsBlind r t k × IsBlind r u k

abbrev pub AreUndecided : Recording → List ℕ → Type 0
AreUndecided r keys = (k : ℕ) → Contains keys k → IsUndecided r k
