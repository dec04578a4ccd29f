use Rattle.std.proofs.Common.{◌≡◌, ◌≤◌, ◌<◌, ℕ, false}
use Rattle.tx_transaction.specs.Buffers.{wants, progress_at}
use Rattle.tx_transaction.proofs.buffer.index_between.Given as goal

abbrev pub invariant-loop-i : goal.invariant-loop-i
invariant-loop-i l = (k : ℕ) → l.from ≤ k → k < l.i → wants l.phase (progress_at l.buffer k) ≡ false
