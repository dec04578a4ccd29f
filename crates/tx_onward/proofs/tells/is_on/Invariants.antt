use Rattle.std.proofs.Common.{◌≡◌, false, take}
use Rattle.tx_onward.specs.Tells.{is_on}
use Rattle.tx_onward.proofs.tells.is_on.Given as goal

abbrev pub invariant-loop-i : goal.invariant-loop-i
invariant-loop-i l = is_on (take l.i l.steps) l.txn ≡ false
