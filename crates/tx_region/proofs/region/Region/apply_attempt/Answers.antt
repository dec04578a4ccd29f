use Rattle.std.proofs.Common.{◌≡◌, None, inl, refl, sym, ap, subst, ◌∙◌}
use Rattle.std.specs.Prelude.{IsSome, IfSome, IsSomeAnd}
use Rattle.tx_types.specs.declared.key.Key.{Key}
use Rattle.tx_core.specs.Histories.{left, Begins}
use Rattle.tx_journal.specs.Known.{Known}
use Rattle.tx_region.specs.Attempts.{Tried, applied_in, ComesIn}
use Rattle.tx_region.specs.Copies.{key_in, SameKey}
use Rattle.tx_region.specs.KeyPlans.{PlanOf, AreOf, IsPlanFor, StayedKey}
use Rattle.tx_region.specs.Regions.{region_of}
use Rattle.tx_region.proofs.PlanResults.{key_same, key_stayed, not_before, knows_mid, mark_mid, comes_of}
use Rattle.tx_region.proofs.Attempts.{plan_there, if_plan, are_there}
use Rattle.tx_region.proofs.region.Region.apply_attempt.Goals as goal

pub carry_into-requires-clause-knows : goal.carry_into-requires-clause-knows
carry_into-requires-clause-knows g c =
    let bounds = g.J.JournalId.bounds in
    let old = c.args.self.now in
    let mid = c.learn.new.self in
    let q = c.args.request.now in
    let a = c.attempt.inside in
    let seen = c.in-Some.seen in
    let planned = c.in-Some-planned.planned in
    let plan : PlanOf = record {
      region = a.region;
      events = seen.told;
      key = seen.bytes;
      loaded = a.loaded;
      planned = planned;
    } in
    let of : IsPlanFor q plan × (plan.region ≡ old.seat) = plan_there (λ s. s.told) (λ s. s.bytes) a.region a.view
    a.numbers a.taken a.loaded (λ p. IsPlanFor q p × (p.region ≡ old.seat)) a.seen a.planned seen planned
    (sym c.in-Some.ensures.value) c.in-Some-planned.is
    (subst (λ (t : Tried). IsSomeAnd t.plan (λ p. IsPlanFor q p × (p.region ≡ old.seat)))
    (sym c.attempt.view_is) c.requires.of) in
    let told : Begins plan.events mid.events = c.learn.ensures.told in
    knows_mid bounds old mid c.learn.ensures.same.0 c.learn.ensures.seen plan told q of.0

pub carry_into-requires-clause-mark : goal.carry_into-requires-clause-mark
carry_into-requires-clause-mark g c =
    let bounds = g.J.JournalId.bounds in
    let old = c.args.self.now in
    let mid = c.learn.new.self in
    let q = c.args.request.now in
    let a = c.attempt.inside in
    let seen = c.in-Some.seen in
    let planned = c.in-Some-planned.planned in
    let plan : PlanOf = record {
      region = a.region;
      events = seen.told;
      key = seen.bytes;
      loaded = a.loaded;
      planned = planned;
    } in
    let of : IsPlanFor q plan × (plan.region ≡ old.seat) = plan_there (λ s. s.told) (λ s. s.bytes) a.region a.view
    a.numbers a.taken a.loaded (λ p. IsPlanFor q p × (p.region ≡ old.seat)) a.seen a.planned seen planned
    (sym c.in-Some.ensures.value) c.in-Some-planned.is
    (subst (λ (t : Tried). IsSomeAnd t.plan (λ p. IsPlanFor q p × (p.region ≡ old.seat)))
    (sym c.attempt.view_is) c.requires.of) in
    let told : Begins plan.events mid.events = c.learn.ensures.told in
    mark_mid bounds old mid c.learn.ensures.same.0 c.learn.ensures.seen plan told q of.0

pub returns-in-None-clause-comes : goal.returns-in-None-clause-comes
returns-in-None-clause-comes g c =
    let bounds = g.J.JournalId.bounds in
    let old = c.args.self.now in
    let mid = c.learn.new.self in
    let q = c.args.request.now in
    let a = c.attempt.inside in
    let seen = c.in-Some.seen in
    let planned = c.in-Some-planned.planned in
    let plan : PlanOf = record {
      region = a.region;
      events = seen.told;
      key = seen.bytes;
      loaded = a.loaded;
      planned = planned;
    } in
    let of : IsPlanFor q plan × (plan.region ≡ old.seat) = plan_there (λ s. s.told) (λ s. s.bytes) a.region a.view
    a.numbers a.taken a.loaded (λ p. IsPlanFor q p × (p.region ≡ old.seat)) a.seen a.planned seen planned
    (sym c.in-Some.ensures.value) c.in-Some-planned.is
    (subst (λ (t : Tried). IsSomeAnd t.plan (λ p. IsPlanFor q p × (p.region ≡ old.seat)))
    (sym c.attempt.view_is) c.requires.of) in
    let told : Begins plan.events mid.events = c.learn.ensures.told in
    let content = g.F.Holds.content in
    let numbers = g.F.Holds.numbers in
    let s = c.self.inside in
    let number : s.seat.seat ≡ old.seat = ap (λ (k : Known). k.seat) c.self.view_is ∙ c.learn.ensures.same.0 in
    let here : Begins plan.events s.seat.events =
    subst (λ (k : Known). Begins plan.events k.events) (sym c.self.view_is) told in
    let are : AreOf plan.events s.seat.seat a.numbers a.taken a.loaded =
    subst (λ n. AreOf plan.events n a.numbers a.taken a.loaded) (of.1 ∙ sym number) (are_there (λ x. x.told)
    (λ x. x.bytes) a.region a.view a.numbers a.taken a.loaded a.seen seen
    (sym c.in-Some.ensures.value) c.attempt.invariant) in
    let key = key_in c.body.result.now in
    let is_key : key ≡ key_in q.body = ap key_in c.body.ensures.body in
    let changed : SameKey key (left plan.events s.seat.seat) (left s.seat.events s.seat.seat) → ⊥ = λ same.
    let stayed = key_stayed bounds s.seat (content s.records.families) s.records.safe s.records.collected
    s.records.taken (numbers s.records.families) c.self.invariant plan.events here a.numbers a.taken a.loaded are
    key same in
    let there : IsSome c.bytes_if_stayed.result = c.bytes_if_stayed.ensures.stayed.1 stayed in
    cc (rw c.in-None.is at there) in
    let not_same : SameKey (key_in q.body) (left plan.events mid.seat) (left mid.events mid.seat) → ⊥ =
    subst (λ (x : Key × Known). SameKey x.0 (left plan.events x.1.seat) (left x.1.events x.1.seat)
    → ⊥) (λ i. (is_key i, c.self.view_is i)) changed in
    let comes : ComesIn bounds old.seat old.events mid.events q plan a.answer None = (
      refl,
      inl (not_before bounds old mid c.learn.ensures.same.0 c.learn.ensures.seen plan told q of.0 not_same),
      c.learn.ensures.seen,
    ) in
    let P : PlanOf → Type 0 = λ p. ComesIn bounds old.seat old.events mid.events q p a.answer None in
    subst (λ (t : Tried). IfSome t.plan P) c.attempt.view_is (if_plan (λ x. x.told) (λ x. x.bytes) a.region a.view
    a.numbers a.taken a.loaded P a.seen a.planned seen planned (sym c.in-Some.ensures.value) c.in-Some-planned.is
    comes)

pub returns-in-Some-bytes_if_stayed-clause-comes : goal.returns-in-Some-bytes_if_stayed-clause-comes
returns-in-Some-bytes_if_stayed-clause-comes g c =
    let bounds = g.J.JournalId.bounds in
    let old = c.args.self.now in
    let mid = c.learn.new.self in
    let q = c.args.request.now in
    let a = c.attempt.inside in
    let seen = c.in-Some.seen in
    let planned = c.in-Some-planned.planned in
    let plan : PlanOf = record {
      region = a.region;
      events = seen.told;
      key = seen.bytes;
      loaded = a.loaded;
      planned = planned;
    } in
    let of : IsPlanFor q plan × (plan.region ≡ old.seat) = plan_there (λ s. s.told) (λ s. s.bytes) a.region a.view
    a.numbers a.taken a.loaded (λ p. IsPlanFor q p × (p.region ≡ old.seat)) a.seen a.planned seen planned
    (sym c.in-Some.ensures.value) c.in-Some-planned.is
    (subst (λ (t : Tried). IsSomeAnd t.plan (λ p. IsPlanFor q p × (p.region ≡ old.seat)))
    (sym c.attempt.view_is) c.requires.of) in
    let told : Begins plan.events mid.events = c.learn.ensures.told in
    let content = g.F.Holds.content in
    let numbers = g.F.Holds.numbers in
    let s = c.self.inside in
    let number : s.seat.seat ≡ old.seat = ap (λ (k : Known). k.seat) c.self.view_is ∙ c.learn.ensures.same.0 in
    let here : Begins plan.events s.seat.events =
    subst (λ (k : Known). Begins plan.events k.events) (sym c.self.view_is) told in
    let are : AreOf plan.events s.seat.seat a.numbers a.taken a.loaded =
    subst (λ n. AreOf plan.events n a.numbers a.taken a.loaded) (of.1 ∙ sym number) (are_there (λ x. x.told)
    (λ x. x.bytes) a.region a.view a.numbers a.taken a.loaded a.seen seen
    (sym c.in-Some.ensures.value) c.attempt.invariant) in
    let key = key_in c.body.result.now in
    let is_key : key ≡ key_in q.body = ap key_in c.body.ensures.body in
    let stayed : StayedKey (region_of content s.records 0) (numbers s.records.families key) a.numbers a.taken =
    c.bytes_if_stayed.ensures.stayed.0 (rw c.in-Some-bytes_if_stayed.is refl) in
    let same_key = key_same bounds s.seat (content s.records.families) s.records.safe s.records.collected
    s.records.taken (numbers s.records.families) c.self.invariant plan.events here a.numbers a.taken a.loaded are
    key stayed in
    let same : SameKey (key_in q.body) (left plan.events mid.seat) (left mid.events mid.seat) =
    subst (λ (x : Key × Known). SameKey x.0 (left plan.events x.1.seat) (left x.1.events x.1.seat))
    (λ i. (is_key i, c.self.view_is i)) same_key in
    let now = c.carry_into.new.self.events in
    let comes = comes_of bounds old mid c.learn.ensures.same.0 c.learn.ensures.seen
    plan told q of.0 same (applied_in q c.carry_into.new.place c.carry_into.result) now
    c.carry_into.ensures.comes in
    let P : PlanOf → Type 0 =
    λ p. ComesIn bounds old.seat old.events now q p c.carry_into.new.place c.carry_into.result in
    subst (λ (t : Tried). IfSome t.plan P) c.attempt.view_is (if_plan (λ x. x.told) (λ x. x.bytes) a.region a.view
    a.numbers a.taken a.loaded P a.seen a.planned seen planned (sym c.in-Some.ensures.value) c.in-Some-planned.is
    comes)
