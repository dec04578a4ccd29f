-- The head of a write buffer of which a phase has nothing left to send.
use Rattle.std.specs.Prelude.{◌≡◌, ◌<◌, ℕ, false}
use Rattle.tx_transaction.specs.declared.settled.Settled.{Settled}
use Rattle.tx_transaction.specs.Buffers.{Entries, progress_at, wants}

-- the phase has nothing left to send of so many keys, from the first on
abbrev pub IsSettled : Settled → Entries → Type 0
IsSettled s es = (k : ℕ) → k < s.keys → wants s.phase (progress_at es k) ≡ false
