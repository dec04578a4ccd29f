use Rattle.std.proofs.Common.{◌≡◌, sym, subst}
use Rattle.std.specs.Prelude.{IsSomeAnd, unwrap_or}
use Rattle.tx_region.specs.Attempts.{no_copy, no_plan}
use Rattle.tx_region.specs.KeyPlans.{Copied, PlanOf, IsCopyFor, IsPlanFor, IsSomePlan}
use Rattle.tx_region.proofs.Attempts.{wrapped, unwrapped, there_then}
use Rattle.tx_region.proofs.key_copy.KeyCopy.plan.Goals as goal

pub plan-requires : goal.plan-requires
plan-requires g c = wrapped (IsCopyFor c.args.request.now) c.self.inside.attempt.copy no_copy c.self.invariant
    (subst (IsCopyFor c.args.request.now) (sym c.self.view_is) c.requires)

pub invariant_of-result : goal.invariant_of-result
invariant_of-result g c =
    let q = c.args.request.now in
    let P : PlanOf → Type 0 = λ plan. IsPlanFor q plan × IsSomeAnd c.self.inside.attempt.copy
    (λ copy. (plan.region ≡ copy.region) × (plan.events ≡ copy.events)) in
    there_then P IsSomePlan c.plan.new.self.plan (λ plan is. ∣ (q, is.0) ∣₁) c.plan.ensures.plan

pub returns-clause-plan : goal.returns-clause-plan
returns-clause-plan g c =
    let q = c.args.request.now in
    let P : PlanOf → Type 0 = λ plan. IsPlanFor q plan × IsSomeAnd c.self.inside.attempt.copy
    (λ copy. (plan.region ≡ copy.region) × (plan.events ≡ copy.events)) in
    (unwrapped P c.plan.new.self.plan no_plan c.plan.ensures.plan).0

pub returns-clause-same : goal.returns-clause-same
returns-clause-same g c =
    let q = c.args.request.now in
    let old = c.self.inside.attempt.copy in
    let plan = unwrap_or c.plan.new.self.plan no_plan in
    let P : PlanOf → Type 0 = λ plan. IsPlanFor q plan × IsSomeAnd old
    (λ copy. (plan.region ≡ copy.region) × (plan.events ≡ copy.events)) in
    let S : Copied → Type 0 = λ copy. (plan.region ≡ copy.region) × (plan.events ≡ copy.events) in
    subst S c.self.view_is (unwrapped S old no_copy (unwrapped P c.plan.new.self.plan no_plan c.plan.ensures.plan).1)
