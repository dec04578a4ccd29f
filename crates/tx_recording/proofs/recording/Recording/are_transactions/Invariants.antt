-- The operations of those so far are there.
use Rattle.std.proofs.Common.{ℕ, ◌<◌, length}
use Rattle.tx_recording.specs.Recordings.{IsTransactionOf, transaction_at}
use Rattle.tx_recording.proofs.recording.Recording.are_transactions.Given as goal

abbrev pub invariant-loop-t : goal.invariant-loop-t
invariant-loop-t l = (t : ℕ) → t < l.t → IsTransactionOf (length l.self.ops.items) (transaction_at l.self t)
