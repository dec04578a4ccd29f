use Rattle.std.proofs.Common.{inl, inr, refl, sym, subst, ◌∙◌, arith}
use Rattle.std.specs.Prelude.{IsTrue}
use Rattle.std.proofs.lemmas.Bool.{cases_Bool}
use Rattle.tx_types.specs.Keys.{key_le}
use Rattle.tx_plan.proofs.KeyOrder.{ge_true, ge_false}
use Rattle.tx_region.proofs.BoundsBelow.{above_lt, empty_range, from_inside, range_within, range_across}
use Rattle.tx_region.proofs.routes.is_within.Goals as goal

pub returns-then-ge : goal.returns-then-ge
returns-then-ge c =
    let b = c.args.body.now in
    let empty = empty_range c.args.bounds.now c.requires b c.args.number (ge_true b.from b.to (sym c.if-ge.ensures)) in
    ((λ h k inside. absurd (empty k inside)), λ all. refl)

pub returns-then-route-number : goal.returns-then-route-number
returns-then-route-number c =
    let b = c.args.body.now in
    let inside = from_inside b (ge_false b.from b.to (sym c.if-ge.ensures)) in
    ((λ h. absurd (cc (h))), λ all. absurd (c.if-route-number.true (c.route.ensures ∙ all b.from inside)))

pub returns-in-Some : goal.returns-in-Some
returns-in-Some c =
    let b = c.args.body.now in
    let bounds = c.args.bounds.now in
    let n = c.args.number in
    let next = c.in-Some.next.now in
    let at = c.in-Some.ensures.lookup in
    let first = sym c.route.ensures ∙ c.if-route-number.false in (
      (λ h. range_within bounds c.requires b n first
          (λ d in_range. subst (λ x. IsTrue (key_le b.to x)) (at.3.1 d) (sym c.le.ensures ∙ h))),
      λ all. elim (cases_Bool c.le.result) [
        | inl t ↦ t
        | inr f ↦ absurd (range_across bounds c.requires b n first next at.1 at.3.0
            (above_lt b.to next (sym c.le.ensures ∙ f)) all)
      ],
    )

pub returns-in-None : goal.returns-in-None
returns-in-None c =
    let b = c.args.body.now in
    let past = c.in-None.ensures.lookup.3 in
    let first = sym c.route.ensures ∙ c.if-route-number.false in (
      (λ h. range_within c.args.bounds.now c.requires b c.args.number first (λ d in_range. absurd (omega arith))),
      λ all. refl,
    )
