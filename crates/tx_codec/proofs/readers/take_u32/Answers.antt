use Rattle.std.proofs.Common.{arith}
use Rattle.std.proofs.lemmas.List.{take_rest}
use Rattle.tx_codec.proofs.Numerals.{takes_4}
use Rattle.tx_codec.proofs.readers.take_u32.Goals as goal

pub returns : goal.returns
returns c = rw (take_rest, c.read_u32.ensures)
    (takes_4 c.args.bytes.now (λ i. omega (arith, c.type_inv.bytes i)) c.if-bytes-lt4.false)
