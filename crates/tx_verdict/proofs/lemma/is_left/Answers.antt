-- The lemma at the place.
use Rattle.std.proofs.Common.{List, get_or, arith, subst}
use Rattle.std.proofs.lemmas.Grind.{common_steps}
use Rattle.std.proofs.lemmas.Option.{slice_get-get_or}
use Rattle.tx_verdict.specs.declared.refutation.WriteOrder.{WriteOrder}
use Rattle.tx_verdict.specs.Refutations.{IsUnit}
use Rattle.tx_verdict.proofs.lemma.is_left.Goals as goal

pub returns : goal.returns
returns c is =
    let lemmas = c.args.lemmas.now in
    let l = c.index-lemmas-place.result in
    let place = c.args.hint.lemma in
    let P : List WriteOrder → Type 0 = λ q. IsUnit c.args.known.now q c.args.hint.order in (
      get_or lemmas place l,
      slice_get-get_or lemmas place l (grind (arith, common_steps, c.if-place-lemmas.false)),
      subst P c.as_slice.ensures.value (c.is_unit.ensures is),
    )
