use Rattle.std.proofs.Common.{ap, ◌∙◌, arith}
use Rattle.std.proofs.lemmas.Simd.{length-chunk, none_from_empty_mask, trailing_mask_l, run_in_chunk_le, run_in_chunk_fails}
use lib.Lanes.{chunk}
use lib.Count.{count_trailing_zeros}
use Rattle.tx_text.specs.Plain.{is_stop}
use Rattle.tx_text.proofs.plain.plain_in.Goals as goal

pub returns-then-found-eq0-clause-plain : goal.returns-then-found-eq0-clause-plain
returns-then-found-eq0-clause-plain c =
    none_from_empty_mask is_stop c.args.bytes.now c.args.at 8 0 (omega arith) (omega (arith, c.stops-found.ensures))

pub returns-else-found-eq0-clause-few : goal.returns-else-found-eq0-clause-few
returns-else-found-eq0-clause-few c =
    let bytes = c.args.bytes.now in
    let at = c.args.at in
    let counted = ap (count_trailing_zeros 64) c.stops-found.ensures
    ∙ trailing_mask_l is_stop 64 (chunk at 8 bytes) (omega (arith, length-chunk at 8 bytes (omega arith)))
    (omega (arith, c.stops-found.ensures)) in
    run_in_chunk_le is_stop bytes at 8 (count_trailing_zeros 64 c.stops-found.result) 0 (omega arith) counted

pub returns-else-found-eq0-clause-plain : goal.returns-else-found-eq0-clause-plain
returns-else-found-eq0-clause-plain c =
    let bytes = c.args.bytes.now in
    let at = c.args.at in
    let counted = ap (count_trailing_zeros 64) c.stops-found.ensures
    ∙ trailing_mask_l is_stop 64 (chunk at 8 bytes) (omega (arith, length-chunk at 8 bytes (omega arith)))
    (omega (arith, c.stops-found.ensures)) in
    run_in_chunk_fails is_stop bytes at 8 (count_trailing_zeros 64 c.stops-found.result) 0 (omega arith) counted
