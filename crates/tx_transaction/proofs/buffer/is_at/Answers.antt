use Rattle.std.proofs.Common.{sym}
use Rattle.tx_transaction.proofs.Places.{pair_at}
use Rattle.tx_transaction.proofs.buffer.is_at.Goals as goal

pub returns : goal.returns
returns c = rw (
  (pair_at c.args.buffer.now
      c.args.i (c.in-Some.k.now, c.in-Some.field-0-1.now) c.in-Some.ensures.entry).0,
  sym c.as_bytes.ensures.value,
)
    c.eq.ensures
