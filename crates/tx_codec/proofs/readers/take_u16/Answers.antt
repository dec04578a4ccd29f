use Rattle.std.proofs.Common.{arith}
use Rattle.std.proofs.lemmas.List.{take_rest}
use Rattle.tx_codec.proofs.Numerals.{takes_2}
use Rattle.tx_codec.proofs.readers.take_u16.Goals as goal

pub returns : goal.returns
returns c = rw (take_rest, c.read_u16.ensures)
    (takes_2 c.args.bytes.now (λ i. omega (arith, c.type_inv.bytes i)) c.if-bytes-lt2.false)
