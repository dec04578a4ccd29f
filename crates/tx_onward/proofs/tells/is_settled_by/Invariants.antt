use Rattle.std.proofs.Common.{◌≡◌, false, take}
use Rattle.std.specs.List.{list_any}
use Rattle.tx_onward.specs.Tells.{is_round_of}
use Rattle.tx_onward.proofs.tells.is_settled_by.Given as goal

abbrev pub invariant-loop-i : goal.invariant-loop-i
invariant-loop-i l = list_any (is_round_of l.txn) (take l.i l.facts) ≡ false
