use Rattle.std.proofs.Common.{◌≡◌, Some, sym, subst, arith}
use Rattle.std.specs.Prelude.{IsSomeAnd}
use Rattle.tx_plan.specs.declared.body.Body.{Body}
use Rattle.tx_plan.specs.Cells.{Region}
use Rattle.tx_region.specs.Attempts.{Tried}
use Rattle.tx_region.specs.Copies.{LooksLike, IsPlan}
use Rattle.tx_region.specs.KeyPlans.{IsCopyFor, IsPlanFor}
use Rattle.tx_region.proofs.Attempts.{low_of, looks_of, plan_of, plan_in}
use Rattle.tx_region.proofs.attempt.Attempt.plan.Goals as goal

pub plan-planned-requires : goal.plan-planned-requires
plan-planned-requires g c =
    let inside = c.self.inside in
    let q = c.args.request.now in
    let copy = subst (λ (t : Tried). IsSomeAnd t.copy (λ x. IsCopyFor q x)) (sym c.self.view_is) c.requires in
    let low = low_of (λ s. s.told) (λ s. s.bytes) inside.region inside.view inside.numbers inside.taken inside.loaded
    inside.seen q c.self.invariant copy in
    let looks = looks_of (λ s. s.told) (λ s. s.bytes) inside.region inside.view inside.numbers inside.taken
    inside.loaded inside.seen q copy in
    record {
      room = (omega (arith, low.0), omega (arith, low.1));
      seen = (
        looks.0,
        subst (λ (b : Body). LooksLike looks.0 b inside.view inside.numbers) (sym c.body.ensures.body)
            looks.1,
      );
    }

pub returns-clause-plan : goal.returns-clause-plan
returns-clause-plan g c =
    let inside = c.self.inside in
    let q = c.args.request.now in
    let old = c.args.self.now in
    let copy = subst (λ (t : Tried). IsSomeAnd t.copy (λ x. IsCopyFor q x)) (sym c.self.view_is) c.requires in
    let plans : (r : Region) → LooksLike r q.body inside.view inside.numbers
    → IsPlan inside.loaded.mark r inside.loaded.last q.body c.plan-planned.result =
    λ r looks. subst (λ (b : Body). IsPlan inside.loaded.mark r inside.loaded.last b c.plan-planned.result)
    c.body.ensures.body
    (c.plan-planned.ensures r (subst (λ (b : Body). LooksLike r b inside.view inside.numbers)
    (sym c.body.ensures.body) looks)) in
    let is = plan_of (λ s. s.told) (λ s. s.bytes) inside.region inside.view inside.numbers inside.taken inside.loaded
    inside.seen q c.plan-planned.result copy plans in
    subst (λ (t : Tried). IsSomeAnd (plan_in (λ s. s.told) (λ s. s.bytes) inside.region inside.view inside.numbers
    inside.taken inside.loaded inside.seen (Some c.plan-planned.result)) (λ plan. IsPlanFor q plan
    × IsSomeAnd t.copy (λ x. (plan.region ≡ x.region) × (plan.events ≡ x.events)))) c.self.view_is is
