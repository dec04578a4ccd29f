use Rattle.tx_transaction.proofs.Places.{pair_at}
use Rattle.tx_transaction.proofs.buffer.key_of.Goals as goal

pub returns-clause-ok : goal.returns-clause-ok
returns-clause-ok c = rw
    ((pair_at c.args.buffer.now c.args.i (c.in-Some.key.now, c.in-Some.field-0-1.now) c.in-Some.ensures.entry).0)
    c.clone.ensures.ok
