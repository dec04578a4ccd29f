-- What a desk's stage is after requests.
use Rattle.std.proofs.Common.{◌≡◌, ◌+◌, ℕ, cond, Bool, true, false, List, length, Option, Some, None, option_map, is_some, bytes_eq, refl, sym, ap, subst, ◌∙◌}
use Rattle.std.proofs.Common.{inl, inr}
use Rattle.std.specs.Map.{update}
use Rattle.tx_types.specs.declared.key.Key.{Key}
use Rattle.tx_core.specs.Histories.{History}
use Rattle.tx_journal.specs.Replies.{Asked}
use Rattle.tx_client.specs.Walks.{Walk, asks, grows, ends}
use Rattle.tx_steps.specs.declared.delivery.Delivery.TheVariants as deliveries
use Rattle.tx_steps.specs.declared.delivery.Delivery.{Delivery}
use Rattle.tx_steps.specs.Steps.{Text}
use Rattle.tx_network.specs.Networks.{NetworkParts, request_at, body_at, NetworkState, network_state, with_events, holding, HoldsRequest, IsHold, IsSet, MetHold, Runs}

-- nothing is held anew
pub same_network : (from to : NetworkParts) (h : History) → to.newest ≡ h → to.held ≡ from.held
    → network_state to ≡ with_events (network_state from) h
same_network from to h newest held i =
    record { history = newest i; held = λ q. body_at (held i) q; kept = length (held i) }

body_of : (b : Bool) (q : Asked) (o : Option Asked)
    → option_map (λ (r : Asked). r.body) (cond b (Some q) o)
    ≡ cond b (Some q.body) (option_map (λ (r : Asked). r.body) o)
body_of true q o = refl
body_of false q o = refl

pub some_body : (o : Option Asked) → is_some (option_map (λ (r : Asked). r.body) o) ≡ is_some o
some_body None = refl
some_body (Some r) = refl

-- a request is held
pub kept_network : (name : List ℕ) (from to : NetworkParts) (q : Asked) → HoldsRequest name from to q
    → network_state to ≡ holding (network_state from) name q.body
kept_network name from to q keeps =
    let held : (k : List ℕ) → body_at to.held k ≡ update bytes_eq (network_state from).held name (Some q.body) k =
    λ k. ap (option_map (λ (r : Asked). r.body)) (keeps.held k)
    ∙ body_of (bytes_eq name k) q (request_at from.held k) in
    let many : length to.held ≡ length from.held + cond (is_some (body_at from.held name)) 0 1 =
    keeps.many ∙ ap (λ b. length from.held + cond b 0 1) (sym (some_body (request_at from.held name))) in
    λ i. record { history = keeps.newest i; held = λ k. held k i; kept = many i }

-- ---- setting the delivery

pub set_regions : (delivery : Delivery Text) (from at : NetworkParts) → IsSet delivery from at
    → at.regions ≡ from.regions
set_regions delivery from at (inl is) = ap (λ (d : NetworkParts). d.regions) is
set_regions delivery from at (inr is) = ap (λ (d : NetworkParts). d.regions) is.1

pub set_newest : (delivery : Delivery Text) (from at : NetworkParts) → IsSet delivery from at → at.newest ≡ from.newest
set_newest delivery from at (inl is) = ap (λ (d : NetworkParts). d.newest) is
set_newest delivery from at (inr is) = ap (λ (d : NetworkParts). d.newest) is.1

pub set_trace : (delivery : Delivery Text) (from at : NetworkParts) → IsSet delivery from at → at.trace ≡ from.trace
set_trace delivery from at (inl is) = ap (λ (d : NetworkParts). d.trace) is
set_trace delivery from at (inr is) = ap (λ (d : NetworkParts). d.trace) is.1

pub set_network : (delivery : Delivery Text) (from at : NetworkParts) → IsSet delivery from at
    → network_state at ≡ network_state from
set_network delivery from at (inl is) = ap network_state is
set_network delivery from at (inr is) = ap network_state is.1

module _ (bounds : List Key) where
  -- no memory for the name of a hold is one of the things that may come of it
  unheld_runs : {R : Type 0} (name : List ℕ) (w : Walk R) (s : NetworkState) (r : R) (next : NetworkState)
      → Runs bounds None s w r next → Runs bounds (Some (deliveries.Held name)) s w r next
  unheld_runs name (ends x) s r next run = run
  unheld_runs name (grows more short) s r next (inl run) = inl (unheld_runs name short s r next run)
  unheld_runs name (grows more short) s r next (inr run) = inr (unheld_runs name more s r next run)
  unheld_runs name (asks body more) s r next (c, mid, reach, run) =
      (c, mid, subst (λ x. MetHold name s body x mid) (sym reach.0) reach.1, unheld_runs name (more c) mid r next run)

  held_runs : {R : Type 0} (delivery : Delivery Text) (w : Walk R) (s : NetworkState) (r : R) (next : NetworkState)
      → IsHold delivery → Runs bounds None s w r next → Runs bounds (Some delivery) s w r next
  held_runs (deliveries.Held name) w s r next is run = unheld_runs name w s r next run
  held_runs deliveries.Taken w s r next is run = absurd is
  held_runs deliveries.Lost w s r next is run = absurd is
  held_runs deliveries.Unanswered w s r next is run = absurd is
  held_runs deliveries.Repeated w s r next is run = absurd is

  -- what comes of a walk by the delivery that was set
  pub set_runs : {R : Type 0} (delivery : Delivery Text) (from at : NetworkParts) (w : Walk R) (s : NetworkState) (r :
      R) (next : NetworkState) → IsSet delivery from at → Runs bounds at.delivery s w r next
      → Runs bounds (Some delivery) s w r next
  set_runs delivery from at w s r next (inl is) run =
      subst (λ v. Runs bounds v s w r next) (ap (λ (d : NetworkParts). d.delivery) is) run
  set_runs delivery from at w s r next (inr (hold, is)) run =
      held_runs delivery w s r next hold
      (subst (λ v. Runs bounds v s w r next) (ap (λ (d : NetworkParts). d.delivery) is) run)
