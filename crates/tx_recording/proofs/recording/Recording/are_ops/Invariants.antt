-- What those so far name is there.
use Rattle.std.proofs.Common.{ℕ, ◌<◌, slice_index_or}
use Rattle.tx_recording.specs.Recordings.{IsOpOf, no_op}
use Rattle.tx_recording.proofs.recording.Recording.are_ops.Given as goal

abbrev pub invariant-loop-i : goal.invariant-loop-i
invariant-loop-i l = (i : ℕ) → i < l.i → IsOpOf l.self (slice_index_or l.self.ops.items i no_op)
