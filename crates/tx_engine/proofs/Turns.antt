-- What steps of a session are in the engine state that the engine holds.
use Rattle.std.proofs.Common.{◌≡◌, ℕ, Bool, true, false, cond, List, [], ◌∷◌, ◌++◌, slice_set, Some, None, Ok, Err, inl, inr, refl, sym, ap, subst, ◌∙◌, append_assoc}
use Rattle.tx_types.specs.declared.fault.Cause.{Cause}
use Rattle.tx_types.specs.declared.key.Key.{Key}
use Rattle.tx_plan.specs.declared.body.Body.{Body}
use Rattle.tx_transaction.specs.Returns.{Response}
use Rattle.tx_transaction.specs.declared.state.Miss.TheVariants as miss
use Rattle.tx_client.specs.Calls.{Seated}
use Rattle.tx_transaction.specs.Sessions.{SessionState}
use Rattle.tx_client.specs.Walks.{Walk, asks, grows, ends, Sends}
use Rattle.tx_steps.specs.declared.delivery.Delivery.TheVariants as deliveries
use Rattle.tx_reply.specs.declared.reply.ScriptReply.{ScriptReply}
use Rattle.tx_steps.specs.declared.delivery.Delivery.{Delivery}
use Rattle.tx_steps.specs.Steps.{Text}
use Rattle.tx_network.specs.Networks.{NetworkParts, NetworkState, network_state, IsSet, takes_memory, Passes, Met, Reach, Runs}
use Rattle.tx_steps.specs.declared.call.Call.{Call}
use Rattle.tx_ops.specs.Edits.{is_refused, later_of}
use Rattle.tx_ops.specs.Calls.{Said, call_walk}
use Rattle.tx_ops.proofs.CallEnds.{call_stops}
use Rattle.tx_engine.specs.Semantics.{session, EngineState, Transition, goes, stops, at_network, seat_at, with_session, answers, asked, sent, runs, came, sends_by}
use Rattle.tx_engine.specs.Plays.{Leads}
use Rattle.tx_engine.specs.Slots.{engine_with, GoesTo, SessionGoes, Stays, Did}
use Rattle.tx_engine.proofs.ActCounts.{still_acts, acts_so, sent_acts}
use Rattle.tx_engine.proofs.SlotCounts.{set_here}
use Rattle.tx_network.proofs.Stages.{set_regions, set_newest, set_trace, set_network, set_runs}

-- ---- walks

-- what a turn leads to, after some refusals, whatever is refused after those
abbrev Leading : (bounds : List Key) (Goes : List Bool → EngineState → ScriptReply → List Bool → Type 0)
    → (on : List Bool → Transition) → (turn : List Bool → Transition) → Type 0
Leading bounds Goes on turn = (bits : List Bool) × ((g later : List Bool) → Leads bounds (Goes g) (λ c. ⊥) (on later)
    → Leads bounds (Goes g) (λ c. ⊥) (turn (bits ++ later)))

module _ (bounds : List Key) (Goes : List Bool → EngineState → ScriptReply → List Bool → Type 0) where
  pub asked_leads : (engine : EngineState) (body : Body) (c : Response) (next : NetworkState)
      → Met bounds engine.network body c next → (on : Response → EngineState → List Bool → Transition)
      → Leading bounds Goes (on c (at_network engine next)) (λ refused. asked bounds refused engine body on)
  asked_leads engine body (Err miss.Lost) next met on = absurd met
  asked_leads engine body (Err miss.Fault) next met on = (
    true ∷ [],
    λ g later leads. by_need g later (takes_memory body) met.0
        (subst (λ s. Leads bounds (Goes g) (λ c. ⊥) (on (Err miss.Fault) (at_network engine s) later)) met.1 leads),
  )
    where
      by_need : (g later : List Bool) (b : Bool) → b ≡ true
          → Leads bounds (Goes g) (λ c. ⊥) (on (Err miss.Fault) engine later)
          → Leads bounds (Goes g) (λ c. ⊥) (cond b (on (Err miss.Fault) engine later)
          (answers bounds engine body on (true ∷ later)))
      by_need g later true needs leads = leads
      by_need g later false needs leads = absurd (cc (needs))
  asked_leads engine body (Ok a) next met on = by_need (takes_memory body)
    where
      by_need : (b : Bool) → Leading bounds Goes (on (Ok a) (at_network engine next))
          (λ refused. cond b (cond (is_refused refused) (on (Err miss.Fault) engine (later_of refused))
          (answers bounds engine body on (later_of refused))) (answers bounds engine body on refused))
      by_need true = (
        false ∷ [],
        λ g later leads. (
          a,
          met.0,
          subst (λ s. Leads bounds (Goes g) (λ c. ⊥) (on (Ok a) (at_network engine s) later)) met.1
              leads,
        ),
      )
      by_need false = (
        [],
        λ g later leads. (
          a,
          met.0,
          subst (λ s. Leads bounds (Goes g) (λ c. ⊥) (on (Ok a) (at_network engine s) later)) met.1
              leads,
        ),
      )

  sent_leads : (delivery : Delivery Text) (engine : EngineState) (body : Body) (c : Response) (next : NetworkState)
      → Reach bounds (Some delivery) engine.network body c next → (on : Response → EngineState → List Bool → Transition)
      → Leading bounds Goes (on c (at_network engine next)) (λ refused. sent bounds delivery refused engine body on)
  sent_leads deliveries.Taken engine body c next reach on = asked_leads engine body c next reach on
  sent_leads deliveries.Lost engine body (Err miss.Lost) next reach on = (
    [],
    λ g later leads. subst (λ s. Leads bounds (Goes g) (λ c. ⊥) (on (Err miss.Lost) (at_network engine s) later))
        reach leads,
  )
  sent_leads deliveries.Lost engine body (Err miss.Fault) next reach on = absurd reach
  sent_leads deliveries.Lost engine body (Ok a) next reach on = absurd reach
  sent_leads deliveries.Unanswered engine body (Err miss.Lost) next (c, met) on =
      asked_leads engine body c next met (λ d. on (Err miss.Lost))
  sent_leads deliveries.Unanswered engine body (Err miss.Fault) next reach on = absurd reach
  sent_leads deliveries.Unanswered engine body (Ok a) next reach on = absurd reach
  sent_leads deliveries.Repeated engine body c next (inl (is, same)) on = (
    true ∷ [],
    λ g later leads. subst (λ (p : Response
        × NetworkState). Leads bounds (Goes g) (λ c. ⊥) (on p.0 (at_network engine p.1) later)) (λ i. (
          is i,
          same i,
        )) leads,
  )
  sent_leads deliveries.Repeated engine body c next (inr (first, mid, met, also)) on =
      let one = asked_leads engine body first mid met (λ d at left. asked bounds left at body on) in
      let two = asked_leads (at_network engine mid) body c next also on in (
        false ∷ (one.0 ++ two.0),
        λ g later leads. subst (λ bits. Leads bounds (Goes g) (λ c. ⊥)
            (asked bounds bits engine body (λ d at left. asked bounds left at body on)))
            (sym (append_assoc one.0 two.0 later)) (one.1 g (two.0 ++ later) (two.1 g later leads)),
      )
  sent_leads (deliveries.Held name) engine body (Err miss.Lost) next reach on = (
    false ∷ [],
    λ g later leads. subst (λ s. Leads bounds (Goes g) (λ c. ⊥)
        (on (Err miss.Lost) (at_network engine s) later)) reach leads,
  )
  sent_leads (deliveries.Held name) engine body (Err miss.Fault) next reach on = (
    true ∷ [],
    λ g later leads. subst (λ s. Leads bounds (Goes g) (λ c. ⊥)
        (on (Err miss.Fault) (at_network engine s) later)) reach leads,
  )
  sent_leads (deliveries.Held name) engine body (Ok a) next reach on = absurd reach

  -- what a walk comes to where nobody else acts, its turn leads to
  pub runs_lead : {R : Type 0} (delivery : Delivery Text) (w : Walk R) (engine : EngineState) (r : R)
      (next : NetworkState) → Runs bounds (Some delivery) engine.network w r next
      → (on : R → EngineState → List Bool → Transition)
      → Leading bounds Goes (on r (at_network engine next)) (λ refused. runs bounds delivery refused engine w on)
  runs_lead {R} delivery (ends x) engine r next (is, same) on = (
    [],
    λ g later leads. subst (λ (p : R × NetworkState).
        Leads bounds (Goes g) (λ c. ⊥) (on p.0 (at_network engine p.1) later)) (λ i. (is i, same i)) leads,
  )
  runs_lead {R} delivery (grows more short) engine r next (inl run) on =
      (let rest = runs_lead delivery short engine r next run on
      in (true ∷ rest.0, λ g later leads. rest.1 g later leads))
  runs_lead {R} delivery (grows more short) engine r next (inr run) on =
      (let rest = runs_lead delivery more engine r next run on
      in (false ∷ rest.0, λ g later leads. rest.1 g later leads))
  runs_lead {R} delivery (asks body more) engine r next (c, mid, reach, rest) on =
      let first = sent_leads delivery engine body c mid reach (λ d at left. runs bounds delivery left at (more d) on) in
      let second = runs_lead delivery (more c) (at_network engine mid) r next rest on in (
        first.0 ++ second.0,
        λ g later leads. subst (λ bits. Leads bounds (Goes g) (λ c. ⊥)
            (sent bounds delivery bits engine body (λ d at left. runs bounds delivery left at (more d) on)))
            (sym (append_assoc first.0 second.0 later)) (first.1 g (second.0 ++ later) (second.1 g later leads)),
      )

-- ---- what a session's step goes on to

module _ (bounds : List Key) where
  -- a turn that goes on at once
  pub goes_at : (turn : List Bool → Transition) (bits : List Bool) (said told : ScriptReply)
      (next then_next : EngineState) → ((later : List Bool) → turn (bits ++ later) ≡ goes next said later)
      → next ≡ then_next → said ≡ told → GoesTo bounds turn told then_next
  goes_at turn bits said told next then_next is same also =
      (bits, λ later. subst (Leads bounds _ _) (sym (is later)) (same, also, refl))

  -- a session's step whose turn goes on at once, with the session and the history changed
  pub session_goes : (turn : List Bool → EngineState → ℕ → SessionState
      → Transition) (n : ℕ) (old new : SessionState) (from to : NetworkState) (said told : ScriptReply)
      (bits : List Bool) (next : SessionState) (network : EngineState → ℕ → NetworkState)
      → ((later : List Bool) (engine : EngineState) (k : ℕ)
      → turn (bits ++ later) engine k old ≡ goes (with_session (at_network engine (network engine k)) k next) said
      later)
      → ((engine : EngineState) (k : ℕ) → engine.network ≡ from → n ≡ seat_at bounds k → network engine k ≡ to)
      → next ≡ new → said ≡ told → SessionGoes bounds turn n old new from to told
  session_goes turn n old new from to said told bits next network is at same also ticks names slots k number there =
      goes_at (λ refused. turn refused (engine_with from ticks names slots) k old) bits said told _ _
      (λ later. is later (engine_with from ticks names slots) k)
      (λ i. engine_with (at (engine_with from ticks names slots) k refl number i) ticks names
      (slice_set slots k (session (same i)))) also

  -- one that changes nothing
  pub session_rests : (turn : List Bool → EngineState → ℕ → SessionState
      → Transition) (n : ℕ) (old new : SessionState) (from to : NetworkState) (said told : ScriptReply)
      (bits : List Bool)
      → ((later : List Bool) (engine : EngineState) (k : ℕ)
      → turn (bits ++ later) engine k old ≡ goes engine said later)
      → to ≡ from → new ≡ old → said ≡ told → SessionGoes bounds turn n old new from to told
  session_rests turn n old new from to said told bits is at same also ticks names slots k number there =
      goes_at (λ refused. turn refused (engine_with from ticks names slots) k old) bits said told _ _
      (λ later. is later (engine_with from ticks names slots) k)
      (λ i. engine_with (sym at i) ticks names ((sym (set_here slots k (session old) there) ∙ ap
      (λ s. slice_set slots k (session s)) (sym same)) i)) also

  -- the requests of a call that tells its line something
  session_sends : (what : Call Text) (delivery : Delivery Text) (n : ℕ) (old new : SessionState)
      (from to : NetworkState) (told : ScriptReply)
      → Runs bounds (Some delivery) from (call_walk bounds old what) (new, Ok told) to
      → SessionGoes bounds (λ refused engine k s. sends_by refused engine k s bounds what delivery) n old new from to
      told
  session_sends what delivery n old new from to told run ticks names slots k number there =
      let led = runs_lead bounds (λ later next said left. (next
      ≡ engine_with to ticks names (slice_set slots k (session new))) × (said ≡ told)
      × (left ≡ later)) delivery (call_walk bounds old what) (engine_with from ticks names slots) (new, Ok told) to run
      (λ x next left. came k x.0 x.1 next left) in (led.0, λ later. led.1 later later (refl, refl, refl))

-- ---- what a session's step did

module _ (bounds : List Key) (turn : List Bool → EngineState → ℕ → SessionState → Transition) where
  -- it is not allowed
  pub did_not : (old : Seated) (network : NetworkParts) (c : Cause)
      → ((refused : List Bool) (engine : EngineState) (k : ℕ) → turn refused engine k old.state ≡ stops c)
      → Did bounds turn (Err c) old old network network
  did_not old network c stop = (
    refl,
    (network.delivery, refl),
    λ refused ticks names slots k.
        stop refused (engine_with (network_state network) ticks names slots) k,
  )

  -- it changes nothing but the session's state
  pub did_change : (old new : Seated) (network : NetworkParts) (said : ScriptReply) → new.seat ≡ old.seat
      → SessionGoes bounds turn old.seat.seat old.state new.state (network_state network) (network_state network) said
      → Did bounds turn (Ok said) old new network network
  did_change old new network said seat on = still_acts old.seat new.seat network network _ seat refl refl refl on

-- nothing changes where only the delivery of the next requests is set
set_stays : (delivery : Delivery Text) (from at to : NetworkParts) → IsSet delivery from at → to ≡ at → Stays from to
set_stays delivery from at to (inl is) same = (Some delivery, same ∙ is)
set_stays delivery from at to (inr (hold, is)) same = (None, same ∙ is)

-- it sends, by the delivery that was set
module _ (bounds : List Key) (what : Call Text) (delivery : Delivery Text) (old new : Seated)
    (from at to : NetworkParts) (set : IsSet delivery from at) where
  pub did_send : (r : Said) → Sends (λ (x : NetworkParts) q y z. Passes bounds x.delivery x q y z) bounds old.seat at
      (call_walk bounds old.state what) (new.state, r) to new.seat
      → Did bounds (λ refused engine k s. sends_by refused engine k s bounds what delivery) r old new from to
  did_send (Ok said) sent =
      let acts = sent_acts bounds (call_walk bounds old.state what) old.seat new.seat from at to (new.state, Ok said)
      (set_regions delivery from at set) (set_newest delivery from at set) (set_trace delivery from at set)
      (set_network delivery from at set) sent in
      acts_so old.seat new.seat from to _ _ acts
      (λ run. session_sends bounds what delivery old.seat.seat old.state new.state (network_state from)
      (network_state to) said (set_runs bounds delivery from at (call_walk bounds old.state what) (network_state from)
      (new.state, Ok said) (network_state to) set run))
  did_send (Err c) sent =
      let stopped = call_stops (λ (x : NetworkParts) q y z. Passes bounds x.delivery x q y z) bounds old.seat new.seat
      at to old.state new.state what c sent in (
        λ i. record { state = stopped.1 i; seat = stopped.3 i },
        set_stays delivery from at to set stopped.2,
        λ refused ticks names slots k. ap (λ w. runs bounds delivery refused
            (engine_with (network_state from) ticks names slots) w (λ x next left. came k x.0 x.1 next left)) stopped.0,
      )
