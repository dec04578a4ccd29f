-- What the seat for what no session does makes.
use Rattle.std.proofs.Common.{◌≡◌, ◌≤◌, ◌+◌, ℕ, List, ◌∷◌, length, Some, refl, sym, ap, subst, ◌∙◌, arith}
use Rattle.std.specs.List.{sum_by}
use Rattle.tx_types.specs.declared.key.Key.{Key}
use Rattle.tx_plan.specs.declared.body.Body.{Body}
use Rattle.tx_core.specs.declared.event.Event.TheVariants.{Drawn}
use Rattle.tx_core.specs.Histories.{last, Begins}
use Rattle.tx_core.specs.Recording.{part}
use Rattle.tx_journal.specs.Known.{Known, HasDrawn}
use Rattle.tx_transaction.specs.Returns.{Response}
use Rattle.tx_client.specs.Calls.{Asks}
use Rattle.tx_client.specs.Walks.{Walk, asks, ends}
use Rattle.tx_steps.specs.declared.delivery.Delivery.TheVariants as deliveries
use Rattle.tx_network.specs.Networks.{NetworkParts, made_by, NotesDrawn, IsTraced, NetworkState, network_state, with_events, IsSet, Passes, Met, Runs}
use Rattle.tx_engine.specs.Slots.{Serves, at_regions}
use Rattle.tx_network.proofs.Alone.{drawn_grows, drawn_number, drawn_alone}
use Rattle.tx_network.proofs.Counts.{drawn_part}
use Rattle.tx_network.proofs.Stages.{same_network, set_regions, set_newest, set_trace, set_network, set_runs}
use Rattle.tx_network.proofs.Traces.{traced_same, traced_on}
use Rattle.tx_network.proofs.Walks.{walk_comes}

-- the seat k learnt what is newest and is then l
module _ (bounds : List Key) (from to : NetworkParts) (k l : Known) (number : l.seat
    ≡ k.seat) (knows : Begins from.newest l.events) (own : part k.seat l.events ≡ part k.seat k.events) where
  learnt : made_by l ≡ made_by k
  learnt = ap (λ i. length (part i l.events)) number ∙ ap length own

  -- it draws so many ticks
  pub tick_serves : (n t : ℕ) (m : Known) → HasDrawn bounds l.seat l.events n t m.events → m.seat ≡ l.seat
      → to.regions ≡ from.regions → to.newest ≡ m.events → to.held ≡ from.held → NotesDrawn t from.trace to.trace
      → Serves k m from to ((t ≡ last from.newest + n)
      × (network_state to ≡ with_events (network_state from) (Drawn k.seat (last from.newest + n) ∷ from.newest)))
  tick_serves n t m drawn same regions newest held notes = record {
    made = 1;
    counts =
        (let one = drawn_part bounds l.seat l.events n t m.events drawn in
        let here : made_by m ≡ length (part l.seat m.events) = ap (λ i. length (part i m.events)) same in
        omega (arith, learnt, one, here, ap (sum_by made_by) regions));
    seat = same ∙ number;
    grows = omega (arith, drawn_grows bounds l.seat from.newest l.events knows n t m.events drawn, ap length newest);
    exact = λ le.
        (let few : length m.events ≤ length from.newest + 1 = omega (arith, le, ap length newest) in
        let at : t ≡ last from.newest + n = drawn_number bounds l.seat from.newest l.events knows n t m.events drawn few
        in (
          at,
          same_network from to _ (newest ∙ (drawn_alone bounds l.seat from.newest l.events knows n t m.events drawn
              few ∙ (λ i. Drawn (number i) (at i) ∷ from.newest))) held,
        ));
    traced = λ le. (let few : length m.events ≤ length from.newest + 1 = omega (arith, le, ap length newest)
        in traced_on from to (Drawn l.seat t) (newest ∙ drawn_alone bounds l.seat from.newest l.events knows n t
        m.events drawn few) (notes l.seat));
  }

  -- it has no tick left
  pub spent_serves : (m : Known) → m ≡ l → to ≡ from → Serves k m from to (network_state to ≡ network_state from)
  spent_serves m same is = record {
    made = 0;
    counts = omega (arith, ap made_by same, learnt, ap at_regions is);
    seat = ap (λ (x : Known). x.seat) same ∙ number;
    grows = omega (arith, ap (λ (d : NetworkParts). length d.newest) is);
    exact = λ le. ap network_state is;
    traced = λ le. subst IsTraced (sym is);
  }

-- it asks a region once, and loses nothing
pub ask_serves : (bounds : List Key) (from at to : NetworkParts) (k m : Known) (body : Body) (c : Response)
    → IsSet deliveries.Taken from at
    → Asks (λ (x : NetworkParts) q y z. Passes bounds x.delivery x q y z) bounds k body at to c m
    → Serves k m from to (Met bounds (network_state from) body c (network_state to))
ask_serves bounds from at to k m body c set asked =
    let w : Walk Response = asks body ends in
    let comes = walk_comes bounds w k m at to c (
      asked.reached,
      to,
      m,
      asked.sent,
      asked.learns,
      (asked.is, refl, refl),
    ) in
    record {
      made = comes.made;
      counts = omega (arith, comes.own, comes.counts, ap (sum_by made_by) (set_regions deliveries.Taken from at set));
      seat = comes.number;
      grows = omega (arith, comes.grows, ap length (set_newest deliveries.Taken from at set));
      exact = λ le.
          (let run : Runs bounds (Some deliveries.Taken) (network_state from) w c (network_state to) = set_runs bounds
          deliveries.Taken from at w (network_state from) c (network_state to) set
          (subst (λ s. Runs bounds at.delivery s w c (network_state to)) (set_network deliveries.Taken from at set)
          (comes.exact (omega (arith, le, ap length (set_newest deliveries.Taken from at set))))) in
          met_at run);
      traced = λ le t. comes.traced (omega (
        arith,
        le,
        ap length (set_newest deliveries.Taken from at set),
      ))
          (traced_same from at (set_newest deliveries.Taken from at set) (set_trace deliveries.Taken from at set) t);
    }
  where
    met_at : Runs bounds (Some deliveries.Taken) (network_state from) (asks body ends) c (network_state to)
        → Met bounds (network_state from) body c (network_state to)
    met_at (d, mid, met, (is, same)) = subst (λ (p : Response
        × NetworkState). Met bounds (network_state from) body p.0 p.1) (λ i. (sym is i, sym same i)) met
