use Rattle.std.proofs.Common.{◌≡◌, Option, sym, subst, ◌∙◌}
use Rattle.tx_core.specs.Histories.{History}
use Rattle.tx_plan.specs.declared.answer.Answer.{Answer}
use Rattle.tx_journal.specs.Replies.{Given, IsGiven}
use Rattle.tx_region.specs.Attempts.{ComesIn, no_plan}
use Rattle.tx_region.specs.KeyPlans.{PlanOf, IsPlanFor, IsSomePlan, ComesOf}
use Rattle.tx_region.specs.declared.applied.Applied.TheVariants.{Done}
use Rattle.tx_region.proofs.Attempts.{there_is, wrapped, if_unwrapped}
use Rattle.tx_region.proofs.region.Region.apply.Goals as goal

pub apply_attempt-requires-clause-of : goal.apply_attempt-requires-clause-of
apply_attempt-requires-clause-of g c =
    let P : PlanOf → Type 0 = λ p. IsPlanFor c.args.request p × (p.region ≡ c.args.self.now.seat) in
    let o = c.plan.inside.attempt.plan in
    wrapped P o no_plan (there_is IsSomePlan o c.plan.invariant) (subst P (sym c.plan.view_is) c.requires.of)

pub returns-in-None-clause-comes : goal.returns-in-None-clause-comes
returns-in-None-clause-comes g c =
    let bounds = g.J.JournalId.bounds in
    let old = c.args.self.now in
    let now = c.apply_attempt.new.self.events in
    let answer = c.apply_attempt.new.attempt.answer in
    let o = c.plan.inside.attempt.plan in
    let P : PlanOf → Type 0 =
    λ p. ComesIn bounds old.seat old.events now c.args.request p answer c.apply_attempt.result in
    let comes = subst P c.plan.view_is (if_unwrapped P o no_plan (there_is IsSomePlan o c.plan.invariant)
    c.apply_attempt.ensures.comes) in
    subst (λ (r : Option History). ComesIn bounds old.seat old.events now c.args.request c.args.plan answer r)
    c.in-None.is comes

pub new-requires : goal.new-requires
new-requires g c =
    let q = c.args.request in
    subst (λ (a : Option Answer). IsGiven g.J.JournalId.bounds (record {
      request = q;
      answer = a;
      events = c.in-Some.told;
    })) (sym c.take_answer.ensures.answer.0) c.in-Some.ensures.given

pub returns-clause-comes : goal.returns-clause-comes
returns-clause-comes g c =
    let bounds = g.J.JournalId.bounds in
    let old = c.args.self.now in
    let now = c.apply_attempt.new.self.events in
    let answer = c.apply_attempt.new.attempt.answer in
    let o = c.plan.inside.attempt.plan in
    let P : PlanOf → Type 0 =
    λ p. ComesIn bounds old.seat old.events now c.args.request p answer c.apply_attempt.result in
    let comes = subst P c.plan.view_is (if_unwrapped P o no_plan (there_is IsSomePlan o c.plan.invariant)
    c.apply_attempt.ensures.comes) in
    let some = subst (λ (r : Option History).
    ComesIn bounds old.seat old.events now c.args.request c.args.plan answer r) c.in-Some.is comes in
    let reply = c.new.ensures in
    let C : Given → Type 0 =
    λ g. ComesOf {J = Unit {0}} bounds old.seat old.events now c.args.request c.args.plan (Done g) in
    subst C (λ i. record {
      request = sym reply.0 i;
      answer = (sym c.take_answer.ensures.answer.0 ∙ sym reply.1) i;
      events = sym reply.2 i;
    }) some
