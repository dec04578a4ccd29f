use Rattle.std.proofs.Common.{ℕ, ◌+◌, ◌<◌}
use Rattle.json.proofs.Unique.Keys.{DifferAt}
use Rattle.tx_import.proofs.member_names.neighbours_differ.Given as goal

abbrev pub invariant-loop-i : goal.invariant-loop-i
invariant-loop-i l = (k : ℕ) → k + 1 < l.i → DifferAt l.names k (k + 1)
