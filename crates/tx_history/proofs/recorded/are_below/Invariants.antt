-- Those so far lie below it.
use Rattle.std.proofs.Common.{ℕ, ◌<◌, slice_index}
use Rattle.tx_history.proofs.recorded.are_below.Given as goal

abbrev pub invariant-loop-i : goal.invariant-loop-i
invariant-loop-i l = (i : ℕ) → i < l.i → slice_index l.numbers i < l.above
