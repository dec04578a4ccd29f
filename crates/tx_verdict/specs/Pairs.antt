-- When transactions begin and end. Only this crate's own clauses cite it.
use Rattle.std.specs.Prelude.{◌≡◌, ℕ, ◌<◌, Some}
use Rattle.tx_recording.specs.declared.recording.RecordedOutcome.TheVariants.{Ok}
use Rattle.tx_recording.specs.declared.recording.Recording.{Recording}
use Rattle.tx_recording.specs.Recordings.{txns_of, transaction_at}

-- it is known to have committed, and had ended at e
abbrev pub HasEnded : Recording → ℕ → ℕ → Type 0
HasEnded r t e = ((transaction_at r t).outcome ≡ Ok) × ((transaction_at r t).ended ≡ Some e)

abbrev pub HasBegun : Recording → ℕ → ℕ → Type 0
HasBegun r t b = (t < txns_of r) × ((transaction_at r t).began ≡ Some b)
