use Rattle.std.proofs.Common.{◌≡◌, false, take}
use Rattle.std.specs.List.{list_any}
use Rattle.tx_onward.specs.Tells.{sees_in}
use Rattle.tx_onward.proofs.tells.sees_put.Given as goal

abbrev pub invariant-loop-i : goal.invariant-loop-i
invariant-loop-i l = list_any (sees_in l.recording l.key l.put) (take l.i l.ops) ≡ false
