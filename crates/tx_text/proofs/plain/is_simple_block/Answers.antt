use Rattle.std.proofs.Common.{arith, sym, ◌∙◌}
use Rattle.std.proofs.lemmas.Simd.{none_from_empty_mask}
use Rattle.std.proofs.lemmas.Bool.{eqb-true}
use Rattle.tx_text.specs.Plain.{is_foreign}
use Rattle.tx_text.proofs.plain.is_simple_block.Goals as goal

pub returns : goal.returns
returns c = λ is. none_from_empty_mask is_foreign c.args.bytes.now c.args.at 8 0 (omega arith) (sym c.foreign.ensures
    ∙ eqb-true c.foreign.result 0 is)
