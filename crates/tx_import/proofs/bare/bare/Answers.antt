-- One more.
use Rattle.tx_import.proofs.Bares.{bare_more}
use Rattle.tx_import.proofs.bare.bare.Goals as goal

pub loop-txn-preserved : goal.loop-txn-preserved
loop-txn-preserved c =
    bare_more c.args.recording.now c.loop-txn.transactions.items c.push.new.self.items c.loop-txn.txn c.bare_one.result
    c.in_ok-push.ensures.items c.bare_one.ensures c.loop-txn.invariant
