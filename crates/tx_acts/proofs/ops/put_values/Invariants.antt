use Rattle.std.proofs.Common.{◌≡◌, ◌++◌}
use Rattle.tx_ring.specs.Markup.{each_of}
use Rattle.tx_acts.specs.Ops.{value_at}
use Rattle.tx_acts.proofs.ops.put_values.Given as goal

abbrev pub invariant-loop-i : goal.invariant-loop-i
invariant-loop-i l = l.out.items ≡ l.fn.out.items ++ each_of (value_at l.history l.values) l.i
