use Rattle.std.proofs.Common.{arith, drop}
use Rattle.tx_text.proofs.Lexemes.{space_more}
use Rattle.tx_text.proofs.scan.past_many.Goals as goal

pub bytes-preserved : goal.bytes-preserved
bytes-preserved c = (
  omega arith,
  space_more (drop c.args.from c.args.bytes.now) c.args.bytes.now c.bytes.at (omega arith)
      c.if-bytes-at-eq32.true c.bytes.invariant.1,
)
