-- Those that were taken so far.
use Rattle.std.proofs.Common.{◌≡◌, ℕ, ◌+◌, ◌*◌, ◌<◌, length, slice_index}
use Rattle.tx_history.proofs.decision.every_other.Given as goal

abbrev pub invariant-loop-i : goal.invariant-loop-i
invariant-loop-i l = record {
  len : length l.taken.items ≡ l.i;
  each : (k : ℕ) → k < l.i → slice_index l.taken.items k ≡ slice_index l.numbers (2 * k + l.first);
}
