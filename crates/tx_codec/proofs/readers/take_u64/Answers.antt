use Rattle.std.proofs.Common.{arith}
use Rattle.std.proofs.lemmas.List.{take_rest}
use Rattle.tx_codec.proofs.Numerals.{takes_8}
use Rattle.tx_codec.proofs.readers.take_u64.Goals as goal

pub returns : goal.returns
returns c = rw (take_rest, c.read_u64.ensures)
    (takes_8 c.args.bytes.now (λ i. omega (arith, c.type_inv.bytes i)) c.if-bytes-lt8.false)
