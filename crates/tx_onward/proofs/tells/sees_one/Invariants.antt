use Rattle.std.proofs.Common.{◌≡◌, false, take}
use Rattle.tx_onward.specs.Tells.{sees_one}
use Rattle.tx_onward.proofs.tells.sees_one.Given as goal

abbrev pub invariant-loop-i : goal.invariant-loop-i
invariant-loop-i l = sees_one l.ops (take l.i l.values) ≡ false
