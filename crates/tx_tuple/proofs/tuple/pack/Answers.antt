use Rattle.std.proofs.Common.{arith, length, get_or, ap, []}
use Rattle.std.proofs.lemmas.List.{length-append}
use Rattle.tx_tuple.specs.Tuples.{element, element_bytes}
use Rattle.tx_tuple.specs.declared.part.Part.{Part}
use Rattle.tx_tuple.specs.declared.part.Part.TheVariants.{Bytes}
use Rattle.tx_tuple.proofs.Fronts.{as_far}
use Rattle.tx_tuple.proofs.tuple.pack.Goals as goal

pub returns-then-len-gt-MAX_KEY_BYTES-clause-length :
    goal.returns-then-len-gt-MAX_KEY_BYTES-clause-length
returns-then-len-gt-MAX_KEY_BYTES-clause-length c = λ _ is.
    let d : Part = Bytes (record { ref_ptr = (0, 0); now = [] }) in
    let next = element_bytes (element (get_or c.args.parts.now c.loop-part.part-index d)) in
    let far = as_far c.args.parts.now c.loop-part.part-index d (omega arith) in
    omega (
      arith,
      far,
      ap length c.in_ok-append_part.ensures.bytes,
      ap length c.loop-part.invariant.1,
      length-append c.loop-part.bytes.items next,
    )
