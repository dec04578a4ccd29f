use Rattle.std.proofs.Common.{◌≡◌, ◌<◌, ℕ, false}
use Rattle.tx_transaction.specs.Buffers.{is_zero, progress_at}
use Rattle.tx_transaction.proofs.buffer.has_two_phase_lock.Given as goal

abbrev pub invariant-loop-i : goal.invariant-loop-i
invariant-loop-i l = (k : ℕ) → k < l.i → is_zero (progress_at l.buffer k).accepted ≡ false
