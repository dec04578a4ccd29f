use Rattle.std.proofs.Common.{◌≡◌, ◌<◌, ℕ, false, bytes_eq}
use Rattle.tx_transaction.specs.Buffers.{key_at}
use Rattle.tx_transaction.proofs.key_entries.seek_few.Given as goal

abbrev pub invariant-loop-i : goal.invariant-loop-i
invariant-loop-i l = (k : ℕ) → k < l.i → bytes_eq (key_at l.few k) l.key ≡ false
