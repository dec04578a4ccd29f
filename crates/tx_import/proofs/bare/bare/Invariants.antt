-- Those so far.
use Rattle.tx_import.specs.Recorders.{AreBare}
use Rattle.tx_import.proofs.bare.bare.Given as goal

abbrev pub invariant-loop-txn : goal.invariant-loop-txn
invariant-loop-txn l = AreBare l.recording l.transactions.items l.txn
