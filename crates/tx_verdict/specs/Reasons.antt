-- What reads say of who put into a key, and in which order: by the recording alone.
use Rattle.std.specs.Prelude.{◌≡◌, ◌≢◌, ◌⊎◌, ℕ, ◌+◌, ◌-◌, ◌<◌, ◌≤◌, List, [], length, false, zero, suc, slice_index}
use Rattle.tx_recording.specs.declared.recording.RecordedOutcome.TheVariants.{Ok}
use Rattle.tx_recording.specs.declared.recording.RecordedOp.{RecordedOp}
use Rattle.tx_recording.specs.declared.recording.Recording.{Recording}
use Rattle.tx_recording.specs.Recordings.{transaction_at, ops_of}
use Rattle.tx_recording.specs.Explanations.{IsPut}
use Rattle.tx_views.specs.declared.effect.Effect.{Effect}
use Rattle.tx_views.specs.Views.{Saw, IsEffect}
use Rattle.tx_verdict.specs.Facts.{SawValue, IsPutBy}

-- t saw k as u left it: u put the last of the values
abbrev pub SawOf : Recording → ℕ → ℕ → ℕ → Type 0
SawOf r t k u = (xs : List ℕ) × Saw r t k xs × (1 ≤ length xs) × IsPutBy r u (slice_index xs (length xs - 1))

-- it is known to have committed, or somebody saw a value that it put
abbrev pub HasCommitted : Recording → ℕ → Type 0
HasCommitted r t = ((transaction_at r t).outcome ≡ Ok)
    ⊎ ((w : ℕ) × (k : ℕ) × (v : ℕ) × SawValue r w k v × IsPutBy r t v)

-- it has committed, and puts into k
abbrev pub HasWritten : Recording → ℕ → ℕ → Type 0
HasWritten r t k = HasCommitted r t × ((v : ℕ) × IsPut r t k v)

-- the operations put values behind those of the key, and this one first
abbrev pub AddsFirst : List RecordedOp → ℕ → ℕ → Type 0
AddsFirst os k y = (f : Effect) × IsEffect os k f × (f.clears ≡ false)
    × (1 ≤ length f.values.items) × (slice_index f.values.items 0 ≡ y)

-- k held nothing for u: it saw that, or somebody saw its first value in front
abbrev pub IsFirst : Recording → ℕ → ℕ → Type 0
IsFirst r k u = Saw r u k [] ⊎ ((w : ℕ) × (xs : List ℕ) × Saw r w k xs × (1 ≤ length xs)
    × AddsFirst (ops_of r u) k (slice_index xs 0))

-- k was for u as t left it: it saw that, or somebody saw its first value right behind one of t
abbrev pub IsNext : Recording → ℕ → ℕ → ℕ → Type 0
IsNext r k t u = SawOf r u k t ⊎ ((w : ℕ) × (xs : List ℕ) × (p : ℕ) × Saw r w k xs × (p + 1 < length xs)
    × IsPutBy r t (slice_index xs p) × AddsFirst (ops_of r u) k (slice_index xs (p + 1)))

-- the one at i comes next after the one before it, or is the first
abbrev pub IsBased : Recording → ℕ → List ℕ → ℕ → Type 0
IsBased r k ws zero = IsFirst r k (slice_index ws zero)
IsBased r k ws (suc i) = IsNext r k (slice_index ws i) (slice_index ws (suc i))

-- those up to n wrote k one after the other, from the first on, and the last of them is t
abbrev pub IsRow : Recording → ℕ → List ℕ → ℕ → ℕ → Type 0
IsRow r k ws n t = (slice_index ws n ≡ t)
    × ((i : ℕ) → i ≤ n → HasWritten r (slice_index ws i) k × IsBased r k ws i)

-- u wrote k behind t: next after it, or those up to t wrote one after the other, and u is none of
-- them
abbrev pub IsBehind : Recording → ℕ → ℕ → ℕ → Type 0
IsBehind r k t u = IsNext r k t u ⊎ ((ws : List ℕ) × (n : ℕ) × IsRow r k ws n t
    × ((i : ℕ) → i ≤ n → slice_index ws i ≢ u))

-- t did not see what u wrote into k: it saw nothing, or what another left whom u wrote behind
abbrev pub HasMissed : Recording → ℕ → ℕ → ℕ → Type 0
HasMissed r k t u = Saw r t k [] ⊎ ((w : ℕ) × SawOf r t k w × IsBehind r k w u)
