use Rattle.std.proofs.Common.{sym}
use Rattle.tx_transaction.proofs.Places.{pair_at}
use Rattle.tx_transaction.proofs.buffer.progress_of.Goals as goal

pub returns : goal.returns
returns c = sym ((pair_at c.args.buffer.now c.args.i (c.in-Some.field-0-0.now, c.in-Some.entry.now)
    c.in-Some.ensures.entry).2)
