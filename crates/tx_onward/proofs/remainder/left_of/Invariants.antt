-- Those so far.
use Rattle.tx_onward.proofs.Lefts.{IsLeftTo}
use Rattle.tx_onward.proofs.remainder.left_of.Given as goal

abbrev pub invariant-loop-txn : goal.invariant-loop-txn
invariant-loop-txn l = IsLeftTo l.recording l.told l.transactions.items l.ops.items l.txn
