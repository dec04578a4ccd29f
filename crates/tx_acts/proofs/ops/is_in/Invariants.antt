use Rattle.std.proofs.Common.{◌≡◌, false, take}
use Rattle.tx_acts.specs.Ops.{is_in}
use Rattle.tx_acts.proofs.ops.is_in.Given as goal

abbrev pub invariant-loop-i : goal.invariant-loop-i
invariant-loop-i l = is_in (take l.i l.keys) l.key ≡ false
