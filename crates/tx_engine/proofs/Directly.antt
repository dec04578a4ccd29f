-- A walk of which no request is lost: what it counts, and what it is where nobody else acted.
use Rattle.std.proofs.Common.{◌≡◌, inl, inr, List, Some, Ok, Err, refl, ap, ◌∙◌, arith}
use Rattle.tx_types.specs.declared.key.Key.{Key}
use Rattle.tx_journal.specs.Known.{Known}
use Rattle.tx_journal.specs.Replies.{Asked}
use Rattle.tx_journal.specs.Senders.{Reached, IsHeld, IsSender, LosesNothing}
use Rattle.tx_client.specs.Learns.{response_by, response_of}
use Rattle.tx_client.specs.Walks.{Walk, asks, grows, ends, Sends}
use Rattle.tx_steps.specs.declared.delivery.Delivery.TheVariants as deliveries
use Rattle.tx_network.specs.Networks.{NetworkParts, made_by, Passes, network_state, Met, Runs}
use Rattle.tx_engine.specs.Slots.{Serves}
use Rattle.tx_network.proofs.Walks.{Comes, IsSame, same_learnt, rest_comes, take_one, one_comes, then_comes, or_comes}

module _ {S : Type 0} (network : S → NetworkParts) (bounds : List Key) where
  -- each request is taken once, and its reply comes
  abbrev pub Direct : S → Asked → Reached → S → Type 0
  Direct a q r b = Passes bounds (Some deliveries.Taken) (network a) q r (network b)

  pub is_direct : IsSender bounds (λ (a : S) (q : Asked). IsHeld bounds q.body) Direct (λ a. bounds)
  is_direct = record { takes = λ a q held. held; answers = λ a b q g p. p.request; between = λ a. refl }

  pub loses_nothing : LosesNothing Direct
  loses_nothing = λ a b q l p. p

  one_send : (from mid : NetworkParts) (q : Asked) (k then_known : Known) (g : Reached)
      → Passes bounds (Some deliveries.Taken) from q g mid → IsSame k then_known
      → Comes k from mid then_known (Met bounds (network_state from) q.body (response_of g) (network_state mid))
  one_send from mid q k then_known (Ok g) p same =
      one_comes bounds from mid q.body (response_by g.answer) k then_known _ (take_one bounds from mid q g p) same
      (λ met. met)
  one_send from mid q k then_known (Err l) p same = absurd p

  pub direct_comes : {R : Type 0} (w : Walk R) (k new : Known) (from to : S) (result : R)
      → Sends Direct bounds k from w result to new
      → Comes k (network from) (network to) new (Runs bounds (Some deliveries.Taken) (network_state (network from)) w
      result (network_state (network to)))
  direct_comes (ends r) k new from to result sent =
      rest_comes k new (network from) (network to) _ (ap network sent.1) sent.2 (
        sent.0,
        ap (λ a. network_state (network a)) sent.1,
      )
  direct_comes (grows more short) k new from to result (inl sent) =
      or_comes k new (network from) (network to) _ _ inl (direct_comes short k new from to result sent)
  direct_comes (grows more short) k new from to result (inr sent) =
      or_comes k new (network from) (network to) _ _ inr (direct_comes more k new from to result sent)
  direct_comes (asks body more) k new from to result (reached, mid, then_known, passes, learns, rest) =
      let first = one_send (network from) (network mid) (record {
        by = k.events;
        body = body;
      }) k then_known reached passes (same_learnt bounds k then_known reached learns) in
      let second = direct_comes (more (response_of reached)) then_known new mid to result rest in
      then_comes k then_known new (network from) (network mid) (network to) _ _ _ first second
      (λ met runs. (response_of reached, network_state (network mid), met, runs))

  -- the seat k, which learnt something and is then l, sends so
  module _ {R : Type 0} (w : Walk R) (k l new : Known) (from to : S) (result : R)
      (sent : Sends Direct bounds l from w result to new) where
    pub direct_ticks : l.ticks ≡ k.ticks → new.ticks ≡ k.ticks
    direct_ticks same = (direct_comes w l new from to result sent).ticks ∙ same

    pub direct_serves : l.seat ≡ k.seat → made_by l ≡ made_by k
        → Serves k new (network from) (network to)
        (Runs bounds (Some deliveries.Taken) (network_state (network from)) w result (network_state (network to)))
    direct_serves number own =
        let comes = direct_comes w l new from to result sent in
        record {
          made = comes.made;
          counts = omega (arith, comes.own, comes.counts, own);
          seat = comes.number ∙ number;
          grows = comes.grows;
          exact = comes.exact;
          traced = comes.traced;
        }
