-- The effect says so.
use Rattle.std.proofs.Common.{length, arith, ap, sym, ◌∙◌, slice_index}
use Rattle.std.proofs.lemmas.Bool.{eqb-true}
use Rattle.tx_verdict.proofs.chain.is_first.Goals as goal

pub returns : goal.returns
returns c is =
    let own = c.as_slice-own.result.now in
    let same = c.as_slice-own.ensures.value in
    let some = c.if-own-eq0.false in
    let n = ap length same in (
      c.in_ok-effect.effect,
      c.in_ok-effect.ensures,
      c.if-effect.false,
      omega (arith, some, n),
      ap (λ q. slice_index q 0) (sym same) ∙ eqb-true (slice_index own 0) c.args.value is,
    )
