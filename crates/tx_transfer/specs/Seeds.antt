-- Why a seed may be refused, and what one that was not has written.
use Rattle.std.specs.Prelude.{◌≡◌, ◌⊎◌, ◌<◌, ℕ, Bool, true, false, List, [], ◌∷◌, length}
use Rattle.tx_types.specs.declared.fault.Fault.{Fault}
use Rattle.tx_types.specs.declared.fault.Fault.TheVariants as fault
use Rattle.tx_types.specs.declared.limits.TheConstants.{MAX_VALUE_BYTES}
use Rattle.tx_types.specs.declared.mutation.Mutation.TheVariants.{Put}
use Rattle.tx_types.specs.Lengths.{is_key}
use Rattle.tx_core.specs.declared.event.Declaration.{Declaration}
use Rattle.tx_core.specs.declared.event.Event.TheVariants.{Declared, Answered}
use Rattle.tx_core.specs.declared.event.Outcome.TheVariants as outcome
use Rattle.tx_core.specs.Histories.{History, Among}
use Rattle.tx_transaction.specs.Buffers.{changes_of}
use Rattle.tx_transaction.specs.Sessions.{SessionState, is_declared}

-- its key is of no or too many bytes, its value is of too many, or there is no memory for them
abbrev pub IsTextFault : List ℕ → List ℕ → Fault → Type 0
IsTextFault key value e = ((e ≡ fault.KeyLength) × (is_key key ≡ false))
    ⊎ ((e ≡ fault.ValueLength) × (MAX_VALUE_BYTES < length value)) ⊎ (e ≡ fault.OutOfMemory)

-- a key would be one too many, ticks are spent, or there is no memory
abbrev pub IsWriteFault : Bool → Fault → Type 0
IsWriteFault full e = ((e ≡ fault.TooManyKeys) × (full ≡ true)) ⊎ (e ≡ fault.OracleSpent)
    ⊎ (e ≡ fault.OutOfMemory)

-- one of these, or ticks are spent; its key is never one too many
abbrev pub IsSeedFault : List ℕ → List ℕ → Fault → Type 0
IsSeedFault key value e = IsTextFault key value e ⊎ (e ≡ fault.OracleSpent)

-- The value was put on the key: a transaction declared just that, and it was answered that it is
-- committed.
pub record WasSeeded (h : History) (key value : List ℕ) : Type 0 where
  pub set : Declaration
  pub at : ℕ
  pub declared : Among h (Declared set)
  pub puts : set.changes ≡ record { key = key; mutation = Put value } ∷ []
  pub committed : Among h (Answered set.start (outcome.Committed at))

-- within the crate: a session has declared just that
abbrev pub PutsJust : List ℕ → List ℕ → SessionState → Type 0
PutsJust key value s = (is_declared s ≡ true)
    × (changes_of s.buffer ≡ record { key = key; mutation = Put value } ∷ [])

-- within the crate: a session that has declared just that still has
abbrev pub KeepsPut : SessionState → SessionState → Type 0
KeepsPut old new = (key value : List ℕ) → PutsJust key value old → PutsJust key value new
