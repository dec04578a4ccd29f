-- Which keys hold lists, by the first operations of a recording.
use Rattle.std.proofs.Common.{◌≡◌, ℕ, ◌<◌, Bool, true, false, List, length, get_or}
use Rattle.tx_recording.specs.declared.recording.Act.TheVariants.{Write}
use Rattle.tx_recording.specs.declared.recording.RecordedOp.{RecordedOp}
use Rattle.tx_recording.specs.Recordings.{no_op}

-- the operation at a place writes into the key in place of what was there
abbrev pub WritesAt : List RecordedOp → ℕ → ℕ → Type 0
WritesAt ops k i = ((get_or ops i no_op).key ≡ k) × ((v : ℕ) × ((get_or ops i no_op).act ≡ Write v))

-- by the first n operations
pub record AreListsUpto (ops : List RecordedOp) (n keys : ℕ) (lists : List Bool) : Type 0 where
  pub all : length lists ≡ keys
  pub holds : (k i : ℕ) → get_or lists k false ≡ true → i < n → WritesAt ops k i → ⊥
  pub others : (k : ℕ) → k < keys → get_or lists k true ≡ false → (i : ℕ) × (i < n) × WritesAt ops k i
