-- Those so far are below it.
use Rattle.std.proofs.Common.{ℕ, ◌<◌, slice_index}
use Rattle.tx_recording.proofs.recording.Recording.are_elements.Given as goal

abbrev pub invariant-loop-i : goal.invariant-loop-i
invariant-loop-i l = (i : ℕ) → i < l.i → slice_index l.self.elements.items i < l.self.values
