use Rattle.std.proofs.Common.{◌≡◌, ◌+◌, length, sym, subst, ◌∙◌, arith, rules}
use Rattle.std.proofs.lemmas.List.{get_or_default}
use Rattle.tx_types.specs.declared.key.Key.{Key}
use Rattle.tx_region.specs.KeyFronts.{TellsUpto, TellsApart}
use Rattle.tx_region.proofs.KeyFronts.{front_tells, tells_next}
use Rattle.tx_region.proofs.routes.fronts.Goals as goal

pub loop-index-init : goal.loop-index-init
loop-index-init c = record {
  made = search rules;
  room = search rules;
  tells = λ i d less. absurd (omega arith);
}

pub loop-index-preserved : goal.loop-index-preserved
loop-index-preserved c =
    let kept = c.loop-index.invariant in
    let n = c.loop-index.index in
    let bounds = c.args.bounds.now in
    let items = c.loop-index.fronts.items in
    let f = c.front.result in
    let bound = c.index-bounds-index.result in
    let next = λ (d : Key). subst (λ b. TellsApart b f) (c.index-bounds-index.is
    ∙ get_or_default bounds n bound d c.loop-index-test.true)
    (front_tells bound f c.front.ensures.value c.front.ensures.bytes) in
    record {
      made = omega (arith, kept.made, c.push_reserved.ensures.len);
      room = omega (arith, kept.room, c.push_reserved.ensures.capacity);
      tells = subst (TellsUpto (n + 1) bounds)
          (sym c.push_reserved.ensures.items)
          (tells_next n bounds items f (omega (arith, kept.made, c.loop-index.fronts.ok.0)) kept.tells next);
    }

pub returns-clause-ok : goal.returns-clause-ok
returns-clause-ok c =
    let kept = c.loop-index.invariant in
    let last : c.loop-index.index ≡ length c.args.bounds.now =
    omega (arith, c.loop-index-test.false, c.loop-index.auto.index-end) in (
      omega (arith, kept.made, c.loop-index.fronts.ok.0, last),
      subst (λ n. TellsUpto n c.args.bounds.now c.loop-index.fronts.items) last kept.tells,
    )
