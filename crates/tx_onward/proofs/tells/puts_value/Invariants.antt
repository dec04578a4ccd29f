use Rattle.std.proofs.Common.{◌≡◌, false, take}
use Rattle.tx_onward.specs.Tells.{puts_value}
use Rattle.tx_onward.proofs.tells.puts_value.Given as goal

abbrev pub invariant-loop-i : goal.invariant-loop-i
invariant-loop-i l = puts_value (take l.i l.ops) l.value ≡ false
