-- A walk through the network of one thread: what it counts, and what it is where nobody else acted.
use Rattle.std.proofs.Common.{◌≡◌, ◌≤◌, ◌+◌, ℕ, inl, inr, List, length, Option, Some, None, Ok, Err, refl, sym, ap, subst, ◌∙◌, arith}
use Rattle.std.specs.List.{sum_by}
use Rattle.tx_types.specs.declared.key.Key.{Key}
use Rattle.tx_plan.specs.declared.body.Body.{Body}
use Rattle.tx_plan.specs.declared.answer.Answer.{Answer}
use Rattle.tx_core.specs.Recording.{part}
use Rattle.tx_core.proofs.seats.Beginnings.{begins_length, begins_whole}
use Rattle.tx_core.proofs.seats.Parts.{part_extends}
use Rattle.tx_journal.specs.Known.{Known}
use Rattle.tx_journal.specs.Replies.{Asked, Given}
use Rattle.tx_transaction.specs.Returns.{Response}
use Rattle.tx_transaction.specs.declared.state.Miss.TheVariants as miss
use Rattle.tx_journal.specs.Senders.{Reached, IsHeld, IsSender}
use Rattle.tx_client.specs.Learns.{response_by, response_of, Learns}
use Rattle.tx_client.specs.Walks.{Walk, asks, grows, ends, Sends}
use Rattle.tx_steps.specs.declared.delivery.Delivery.TheVariants as deliveries
use Rattle.tx_steps.specs.declared.delivery.Delivery.{Delivery}
use Rattle.tx_steps.specs.Steps.{Text}
use Rattle.tx_network.specs.Networks.{NetworkParts, region_for, made_by, made_for, TakesBy, Hands, IsUntaken, NotesTaken, IsTraced, Passes, network_state, Met, MetHold, Reach, Runs}
use Rattle.tx_network.proofs.Stages.{same_network, kept_network}
use Rattle.tx_network.proofs.Traces.{traced_same, traced_on}
use Rattle.tx_network.proofs.Alone.{took_grows, took_alone, took_answers}

-- ---- delivery

-- an answer is to the request that was sent
by_delivery : (bounds : List Key) (w : Option (Delivery Text)) (a b : NetworkParts) (q : Asked) (g : Given)
    → Passes bounds w a q (Ok g) b → g.request ≡ q
by_delivery bounds None a b q g p = p.request
by_delivery bounds (Some deliveries.Taken) a b q g p = p.request
by_delivery bounds (Some deliveries.Lost) a b q g p = absurd p.1
by_delivery bounds (Some deliveries.Unanswered) a b q g p = absurd p.1
by_delivery bounds (Some deliveries.Repeated) a b q g (inl p) = p.request
by_delivery bounds (Some deliveries.Repeated) a b q g (inr p) = p.again.request
by_delivery bounds (Some (deliveries.Held name)) a b q g p = p.request

pub is_way : (bounds : List Key)
    → IsSender bounds (λ (a : NetworkParts) (q : Asked). IsHeld bounds q.body)
    (λ (a : NetworkParts) q r b. Passes bounds a.delivery a q r b) (λ a. bounds)
is_way bounds = record {
  takes = λ a q held. held;
  answers =
      λ a b q g p. by_delivery bounds a.delivery a b q g p;
  between = λ a. refl;
}

-- ---- counting

-- what some sends come to: so many events of the regions, none of the sender's; at least so many
-- came; where no more came, they are exact
pub record Comes (k : Known) (from : NetworkParts) (to : NetworkParts) (new : Known) (Exact : Type 0) : Type 0 where
  pub made : ℕ
  pub counts : sum_by made_by to.regions ≤ sum_by made_by from.regions + made
  pub number : new.seat ≡ k.seat
  pub ticks : new.ticks ≡ k.ticks
  pub own : made_by new ≡ made_by k
  pub delivery : to.delivery ≡ from.delivery
  pub grows : length from.newest + made ≤ length to.newest
  pub exact : length to.newest ≤ length from.newest + made → Exact
  pub traced : length to.newest ≤ length from.newest + made → IsTraced from → IsTraced to

-- who sends makes no event
pub record IsSame (k new : Known) : Type 0 where
  pub number : new.seat ≡ k.seat
  pub ticks : new.ticks ≡ k.ticks
  pub own : made_by new ≡ made_by k

pub same_learnt : (bounds : List Key) (old new : Known) (g : Reached) → Learns bounds old g new → IsSame old new
same_learnt bounds old new (Err l) is =
    record { number = ap (λ (k : Known). k.seat) is; ticks = ap (λ (k : Known). k.ticks) is; own = ap made_by is }
same_learnt bounds old new (Ok g) is = record {
  number = is.0;
  ticks = is.1;
  own = ap (λ i. length (part i new.events)) is.0
      ∙ ap length (part_extends old.seat old.events new.events is.2.extends);
}

-- nothing was sent
pub rest_comes : (k new : Known) (from to : NetworkParts) (Exact : Type 0) → to ≡ from → new ≡ k → Exact
    → Comes k from to new Exact
rest_comes k new from to Exact is same exact = record {
  made = 0;
  counts = omega (arith, ap (λ (d : NetworkParts). sum_by made_by d.regions) is);
  number = ap (λ (x : Known). x.seat) same;
  ticks = ap (λ (x : Known). x.ticks) same;
  own = ap made_by same;
  delivery = ap (λ (d : NetworkParts). d.delivery) is;
  grows = omega (arith, ap (λ (d : NetworkParts). length d.newest) is);
  exact = λ le. exact;
  traced = λ le. subst IsTraced (sym is);
}

-- ---- one take

-- what a region's take comes to, as a count and as what it is where nobody else acted
pub record One (bounds : List Key) (from to : NetworkParts) (body : Body) (c : Response) : Type 0 where
  pub made : ℕ
  pub counts : sum_by made_by to.regions ≤ sum_by made_by from.regions + made
  pub delivery : to.delivery ≡ from.delivery
  pub grows : length from.newest + made ≤ length to.newest
  pub exact : length to.newest ≤ length from.newest + made → Met bounds (network_state from) body c (network_state to)
  pub traced : length to.newest ≤ length from.newest + made → IsTraced from → IsTraced to

take_by : (bounds : List Key) (from to : NetworkParts) (body : Body) (o : Option Answer) → to.delivery ≡ from.delivery
    → to.held ≡ from.held → sum_by made_by to.regions ≤ sum_by made_by from.regions + made_for o
    → TakesBy (region_for bounds body) from.newest body o to.newest → NotesTaken body o from.trace to.trace
    → One bounds from to body (response_by o)
take_by bounds from to body None delivery held counts (begins, needs) notes = record {
  made = 0;
  counts = counts;
  delivery = delivery;
  grows = omega (arith, begins_length from.newest to.newest begins);
  exact = λ le. (let same = begins_whole from.newest to.newest begins (omega (arith, le)) in
      (needs, same_network from to from.newest (sym same) held));
  traced = λ le. traced_same from to (sym (begins_whole from.newest to.newest begins (omega (arith, le)))) notes;
}
take_by bounds from to body (Some a) delivery held counts took notes =
    let n = region_for bounds body in
    record {
      made = 1;
      counts = counts;
      delivery = delivery;
      grows = took_grows n from.newest body a to.newest took;
      exact = λ le. (
        took_answers n from.newest body a to.newest took le,
        same_network from to _ (took_alone n from.newest body a to.newest took le) held,
      );
      traced = λ le. traced_on from to _ (took_alone n from.newest body a to.newest took le) (notes _ refl refl);
    }

pub take_one : (bounds : List Key) (from to : NetworkParts) (q : Asked) (g : Given)
    → Hands (region_for bounds q.body) from to q g → One bounds from to q.body (response_by g.answer)
take_one bounds from to q g h = take_by bounds from to q.body g.answer h.delivery h.held h.counts h.takes h.notes

pub one_comes : (bounds : List Key) (from to : NetworkParts) (body : Body) (c : Response) (k new : Known) (Exact :
    Type 0) → One bounds from to body c → IsSame k new
    → (Met bounds (network_state from) body c (network_state to) → Exact) → Comes k from to new Exact
one_comes bounds from to body c k new Exact one same on = record {
  made = one.made;
  counts = one.counts;
  number = same.number;
  ticks = same.ticks;
  own = same.own;
  delivery = one.delivery;
  grows = one.grows;
  exact = λ le. on (one.exact le);
  traced = one.traced;
}

-- two after one another
two_comes : (bounds : List Key) (from mid to : NetworkParts) (body : Body) (c d : Response) (k new : Known) (Exact :
    Type 0) → One bounds from mid body c → One bounds mid to body d → IsSame k new
    → (Met bounds (network_state from) body c (network_state mid)
    → Met bounds (network_state mid) body d (network_state to) → Exact) → Comes k from to new Exact
two_comes bounds from mid to body c d k new Exact one two same on = record {
  made = one.made + two.made;
  counts = omega (arith, one.counts, two.counts);
  number = same.number;
  ticks = same.ticks;
  own = same.own;
  delivery = two.delivery ∙ one.delivery;
  grows = omega (arith, one.grows, two.grows);
  exact = λ le. on (one.exact (omega (arith, le, two.grows))) (two.exact (omega (arith, le, one.grows)));
  traced = λ le t. two.traced (omega (arith, le, one.grows)) (one.traced (omega (arith, le, two.grows)) t);
}

-- ---- one send

module _ (bounds : List Key) (from mid : NetworkParts) (q : Asked) (k then_known : Known) where
  abbrev Exactly : Reached → Type 0
  Exactly g = Reach bounds from.delivery (network_state from) q.body (response_of g) (network_state mid)

  at_delivery : (w : Option (Delivery Text)) → from.delivery ≡ w → (g : Reached)
      → Reach bounds w (network_state from) q.body (response_of g) (network_state mid) → Exactly g
  at_delivery w at g r =
      subst (λ v. Reach bounds v (network_state from) q.body (response_of g) (network_state mid)) (sym at) r

  -- no region took it
  untaken : (g : Given) → IsUntaken from mid q g → IsSame k then_known
      → (response_by g.answer ≡ Err miss.Fault → network_state mid ≡ network_state from → Exactly (Ok g))
      → Comes k from mid then_known (Exactly (Ok g))
  untaken g p same on = record {
    made = 0;
    counts = omega (arith, ap (λ (d : NetworkParts). sum_by made_by d.regions) p.same);
    number = same.number;
    ticks = same.ticks;
    own = same.own;
    delivery = ap (λ (d : NetworkParts). d.delivery) p.same;
    grows = omega (arith, ap (λ (d : NetworkParts). length d.newest) p.same);
    exact = λ le. on (ap response_by p.answer) (ap network_state p.same);
    traced = λ le. subst IsTraced (sym p.same);
  }

  send_comes : (g : Reached) (w : Option (Delivery Text)) → from.delivery ≡ w → Passes bounds w from q g mid
      → IsSame k then_known → Comes k from mid then_known (Exactly g)
  send_comes (Ok g) None at p same = untaken g p same (λ said stays. at_delivery None at (Ok g) (said, stays))
  send_comes (Err l) None at p same = absurd p
  send_comes (Ok g) (Some deliveries.Taken) at p same =
      one_comes bounds from mid q.body (response_by g.answer) k then_known (Exactly (Ok g))
      (take_one bounds from mid q g p) same (at_delivery (Some deliveries.Taken) at (Ok g))
  send_comes (Err l) (Some deliveries.Taken) at p same = absurd p
  send_comes (Ok g) (Some deliveries.Lost) at p same = absurd p.1
  send_comes (Err l) (Some deliveries.Lost) at p same = record {
    made = 0;
    counts = omega (arith, ap (λ (d : NetworkParts). sum_by made_by d.regions) p.0);
    number = same.number;
    ticks = same.ticks;
    own = same.own;
    delivery = ap (λ (d : NetworkParts). d.delivery) p.0;
    grows = omega (arith, ap (λ (d : NetworkParts). length d.newest) p.0);
    exact = λ le. at_delivery (Some deliveries.Lost) at (Err l) (ap network_state p.0);
    traced = λ le. subst IsTraced (sym p.0);
  }
  send_comes (Ok g) (Some deliveries.Unanswered) at p same = absurd p.1
  send_comes (Err l) (Some deliveries.Unanswered) at p same =
      one_comes bounds from mid q.body (response_by p.0.0.answer) k then_known (Exactly (Err l))
      (take_one bounds from mid q p.0.0 p.0.1) same
      (λ met. at_delivery (Some deliveries.Unanswered) at (Err l) (response_by p.0.0.answer, met))
  send_comes (Ok g) (Some deliveries.Repeated) at (inl p) same =
      untaken g p same (λ said stays. at_delivery (Some deliveries.Repeated) at (Ok g) (inl (said, stays)))
  send_comes (Ok g) (Some deliveries.Repeated) at (inr p) same =
      two_comes bounds from p.mid mid q.body (response_by p.first.answer) (response_by g.answer) k then_known
      (Exactly (Ok g)) (take_one bounds from p.mid q p.first p.took) (take_one bounds p.mid mid q g p.again) same
      (λ met also. at_delivery (Some deliveries.Repeated) at (Ok g)
      (inr (response_by p.first.answer, network_state p.mid, met, also)))
  send_comes (Err l) (Some deliveries.Repeated) at p same = absurd p
  send_comes (Ok g) (Some (deliveries.Held name)) at p same =
      untaken g p same (λ said stays. at_delivery (Some (deliveries.Held name)) at (Ok g)
      (subst (λ c. MetHold name (network_state from) q.body c (network_state mid)) (sym said) stays))
  send_comes (Err l) (Some (deliveries.Held name)) at p same = record {
    made = 0;
    counts = omega (arith, ap (sum_by made_by) p.regions);
    number = same.number;
    ticks = same.ticks;
    own = same.own;
    delivery = p.delivery;
    grows = omega (arith, ap length p.newest);
    exact = λ le. at_delivery (Some (deliveries.Held name)) at (Err l) (kept_network name from mid q p);
    traced = λ le. traced_same from mid p.newest p.trace;
  }

-- one after another
pub then_comes : (k mid new : Known) (from at to : NetworkParts) (First Second Both : Type 0)
    → Comes k from at mid First → Comes mid at to new Second → (First → Second → Both) → Comes k from to new Both
then_comes k mid new from at to First Second Both p q both = record {
  made = p.made + q.made;
  counts = omega (arith, p.counts, q.counts);
  number = q.number ∙ p.number;
  ticks = q.ticks ∙ p.ticks;
  own = q.own ∙ p.own;
  delivery = q.delivery ∙ p.delivery;
  grows = omega (arith, p.grows, q.grows);
  exact = λ le. both (p.exact (omega (arith, le, q.grows))) (q.exact (omega (arith, le, p.grows)));
  traced = λ le t. q.traced (omega (arith, le, p.grows)) (p.traced (omega (arith, le, q.grows)) t);
}

pub or_comes : (k new : Known) (from to : NetworkParts) (Exact Then : Type 0) → (Exact → Then)
    → Comes k from to new Exact → Comes k from to new Then
or_comes k new from to Exact Then on p =
    record {
      made = p.made;
      counts = p.counts;
      number = p.number;
      ticks = p.ticks;
      own = p.own;
      delivery =
          p.delivery;
      grows = p.grows;
      exact = λ le. on (p.exact le);
      traced = p.traced;
    }

-- a whole walk
pub walk_comes : {R : Type 0} (bounds : List Key) (w : Walk R) (k new : Known) (from to : NetworkParts) (result : R)
    → Sends (λ (x : NetworkParts) q y z. Passes bounds x.delivery x q y z) bounds k from w result to new
    → Comes k from to new (Runs bounds from.delivery (network_state from) w result (network_state to))
walk_comes bounds (ends r) k new from to result sent =
    rest_comes k new from to _ sent.1 sent.2 (sent.0, ap network_state sent.1)
walk_comes bounds (grows more short) k new from to result (inl sent) =
    or_comes k new from to _ _ inl (walk_comes bounds short k new from to result sent)
walk_comes bounds (grows more short) k new from to result (inr sent) =
    or_comes k new from to _ _ inr (walk_comes bounds more k new from to result sent)
walk_comes bounds (asks body more) k new from to result (reached, mid, then_known, passes, learns, rest) =
    let first = send_comes bounds from mid (record { by = k.events; body = body }) k then_known reached from.delivery
    refl passes (same_learnt bounds k then_known reached learns) in
    let second = walk_comes bounds (more (response_of reached)) then_known new mid to result rest in
    then_comes k then_known new from mid to _ _ _ first second
    (λ reach runs. (
      response_of reached,
      network_state mid,
      reach,
      subst (λ v. Runs bounds v (network_state mid) (more (response_of reached)) result (network_state to))
          first.delivery runs,
    ))
