-- Those so far do not fall, and are small enough.
use Rattle.std.proofs.Common.{ℕ, ◌+◌, ◌<◌, ◌≤◌, length, slice_index}
use Rattle.tx_history.proofs.recorded.are_heads.Given as goal

abbrev pub invariant-loop-k : goal.invariant-loop-k
invariant-loop-k l = record {
  upto : (k : ℕ) → k < l.k → slice_index l.heads k ≤ l.most;
  rising : (k : ℕ) → k < l.k → k + 1 < length l.heads → slice_index l.heads k ≤ slice_index l.heads (k + 1);
}
