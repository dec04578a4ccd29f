use Rattle.std.proofs.Common.{◌≡◌, ◌++◌, take}
use Rattle.tx_acts.specs.Ops.{keyed_ops}
use Rattle.tx_acts.proofs.ops.put_keyed.Given as goal

abbrev pub invariant-loop-i : goal.invariant-loop-i
invariant-loop-i l = l.found.items ≡ l.fn.found.items ++ keyed_ops l.keys (take l.i l.ops)
