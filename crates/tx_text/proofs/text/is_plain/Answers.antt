use Rattle.std.proofs.Common.{arith}
use Rattle.tx_text.proofs.Texts.{plain_more}
use Rattle.tx_text.proofs.text.is_plain.Goals as goal

pub bytes-preserved : goal.bytes-preserved
bytes-preserved c = (
  omega arith,
  plain_more c.args.bytes.now c.bytes.at (omega arith) c.if-byte-lt32.false c.if-byte-eq34.false
      c.if-byte-eq92.false c.bytes.invariant.1,
)
