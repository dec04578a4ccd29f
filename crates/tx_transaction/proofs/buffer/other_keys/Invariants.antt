use Rattle.std.proofs.Common.{◌≡◌, ◌≤◌}
use Rattle.tx_transaction.proofs.Places.{others_below}
use Rattle.tx_transaction.proofs.buffer.other_keys.Given as goal

abbrev pub invariant-loop-i : goal.invariant-loop-i
invariant-loop-i l = record { from : 1 ≤ l.i; keys : l.keys ≡ others_below l.i l.buffer }
