use Rattle.std.proofs.Common.{ap, ◌∙◌, arith}
use Rattle.std.specs.Int.{w64, to_be_bytes}
use Rattle.tx_codec.proofs.Words.{read_8}
use Rattle.tx_spelling.proofs.spelling.number_of.Goals as goal

pub returns : goal.returns
returns c = ap (to_be_bytes w64) c.read_u64.ensures
    ∙ read_8 c.args.group.now c.requires (λ i. omega (arith, c.type_inv.group i))
