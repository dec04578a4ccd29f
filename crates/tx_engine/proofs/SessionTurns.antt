-- What a live session does is its turn.
use Rattle.std.proofs.Common.{◌≡◌, ◌+◌, ℕ, cond, Bool, true, false, not, List, [], ◌∷◌, ◌++◌, slice_set, Some, Result, Ok, Err, refl, sym, ap, subst, ◌∙◌}
use Rattle.tx_types.specs.declared.fault.Cause.{Cause}
use Rattle.tx_types.specs.declared.fault.Cause.TheVariants as cause
use Rattle.tx_types.specs.declared.key.Key.{Key}
use Rattle.tx_core.specs.declared.event.Event.TheVariants.{Drawn}
use Rattle.tx_core.specs.Histories.{last}
use Rattle.tx_transaction.specs.declared.state.Terms.{Terms}
use Rattle.tx_client.specs.Calls.{Seated}
use Rattle.tx_transaction.specs.Sessions.{SessionState, is_declared, exceeds, declaration, can_draw}
use Rattle.tx_reply.specs.declared.reply.ScriptReply.{ScriptReply}
use Rattle.tx_reply.specs.declared.reply.ScriptReply.TheVariants as reply
use Rattle.tx_steps.specs.declared.delivery.Delivery.{Delivery}
use Rattle.tx_steps.specs.Steps.{Text}
use Rattle.tx_network.specs.Networks.{NetworkParts, network_state, with_events, may_go}
use Rattle.tx_engine.specs.Semantics.{session, EngineState, Transition, goes, stops, seat_at, declared_in, placed_in, placed, declares, draws, drew, is_too_many, sends_by, sends}
use Rattle.tx_steps.specs.declared.call.Call.{Call}
use Rattle.tx_engine.specs.Plays.{Leads}
use Rattle.tx_engine.specs.Slots.{engine_with, Acts, Did}
use Rattle.tx_engine.proofs.ActCounts.{acts_so}
use Rattle.tx_engine.proofs.Turns.{goes_at, session_rests, did_not, did_change}

abbrev pub SessionTurn : Type 0
SessionTurn = List Bool → EngineState → ℕ → SessionState → Transition

module _ (bounds : List Key) (turn : SessionTurn) where
  -- ---- what is not allowed, and what changes nothing

  -- where the test is passed, it is not allowed
  pub stops_at : (old : Seated) (network : NetworkParts) (b : Bool) (more : List Bool → EngineState → ℕ
      → Transition) (c : Cause) → ((refused : List Bool) (engine : EngineState) (k : ℕ)
      → turn refused engine k old.state ≡ cond b (stops c) (more refused engine k)) → b ≡ true
      → Did bounds turn (Err c) old old network network
  stops_at old network b more c is passed = did_not bounds turn old network c (λ refused engine k.
      is refused engine k ∙ ap (λ x. cond x (stops c) (more refused engine k)) passed)

  -- where it is not
  pub stops_but : (old : Seated) (network : NetworkParts) (b : Bool) (more : List Bool → EngineState → ℕ
      → Transition) (c : Cause) → ((refused : List Bool) (engine : EngineState) (k : ℕ)
      → turn refused engine k old.state ≡ cond b (more refused engine k) (stops c)) → b ≡ false
      → Did bounds turn (Err c) old old network network
  stops_but old network b more c is failed = did_not bounds turn old network c (λ refused engine k.
      is refused engine k ∙ ap (λ x. cond x (more refused engine k) (stops c)) failed)

  -- a refusal
  pub rests : (old : Seated) (network : NetworkParts) (bits : List Bool) (said : ScriptReply)
      → ((later : List Bool) (engine : EngineState) (k : ℕ)
      → turn (bits ++ later) engine k old.state ≡ goes engine said later)
      → Did bounds turn (Ok said) old old network network
  rests old network bits said is = did_change bounds turn old old network said refl
      (session_rests bounds turn old.seat.seat old.state old.state (network_state network)
      (network_state network) said said bits is refl refl refl)

-- ---- declare and draw

module _ (bounds : List Key) (old new : Seated) (from to : NetworkParts) where
  module _ (terms : Terms) (free : is_declared old.state ≡ false) where
    abbrev declaring : SessionTurn
    declaring = λ refused engine k s. declares refused engine k s bounds terms

    abbrev Exactly : Type 0
    Exactly = (new.state ≡ record old.state { declared = Some terms; placed = placed_in from.newest old.state.buffer })
        × (network_state to ≡ with_events (network_state from)
        (declared_in old.seat.seat from.newest (declaration old.state.start (placed_in from.newest old.state.buffer)
        old.state.buffer terms)))

    abbrev inner : Bool → List Bool → EngineState → ℕ → Transition
    inner many refused engine k = cond many (goes engine reply.TooManyKeys refused)
        (goes (placed refused engine k old.state bounds terms) reply.Fine refused)

    declares_is : (many : Bool) → exceeds old.state.buffer terms ≡ many
        → (refused : List Bool) (engine : EngineState) (k : ℕ)
        → declaring refused engine k old.state ≡ inner many refused engine k
    declares_is many is refused engine k = λ i. cond (free i) (stops cause.Order) (inner (is i) refused engine k)

    pub declared_ok : exceeds old.state.buffer terms ≡ false → Acts old.seat new.seat from to Exactly
        → Did bounds declaring (Ok reply.Fine) old new from to
    declared_ok few act =
        acts_so old.seat new.seat from to _ _ act
        (λ x ticks names slots k number there.
        let engine = engine_with (network_state from) ticks names slots in
        let d = declaration old.state.start (placed_in from.newest old.state.buffer) old.state.buffer terms in
        let events : network_state to ≡ with_events (network_state from)
        (declared_in (seat_at bounds k) from.newest d) =
        x.1 ∙ ap (λ n. with_events (network_state from) (declared_in n from.newest d)) number in
        goes_at bounds (λ refused. declaring refused engine k old.state) [] reply.Fine reply.Fine
        (placed [] engine k old.state bounds terms)
        (engine_with (network_state to) ticks names (slice_set slots k (session new.state)))
        (λ later. declares_is false few later engine k)
        (λ i. engine_with (sym events i) ticks names (slice_set slots k (session (sym x.0 i))))
        refl)

    pub declared_err : exceeds old.state.buffer terms ≡ true → new.state ≡ old.state
        → Acts old.seat new.seat from to (network_state to ≡ network_state from)
        → Did bounds declaring (Ok reply.TooManyKeys) old new from to
    declared_err many same act = acts_so old.seat new.seat from to _ _ act
        (λ x. session_rests bounds declaring old.seat.seat old.state new.state (network_state from)
        (network_state to) reply.TooManyKeys reply.TooManyKeys [] (λ later engine k.
        declares_is true many later engine k) x same refl)

  -- a draw
  pub drew_did : (t : ℕ) → can_draw old.state ≡ true → new.state ≡ record old.state { drawn = Some t }
      → Acts old.seat new.seat from to ((t ≡ last from.newest + 1)
      × (network_state to ≡ with_events (network_state from) (Drawn old.seat.seat (last from.newest + 1)
      ∷ from.newest)))
      → Did bounds (λ refused engine k s. draws refused engine k s bounds) (Ok (reply.Drawn t)) old new from to
  drew_did t can now act =
      acts_so old.seat new.seat from to _ _ act
      (λ x ticks names slots k number there.
      let engine = engine_with (network_state from) ticks names slots in
      let events : network_state to ≡ with_events (network_state from) (Drawn (seat_at bounds k) (last from.newest + 1)
      ∷ from.newest) = x.1 ∙ ap (λ n. with_events (network_state from) (Drawn n (last from.newest + 1)
      ∷ from.newest)) number in
      let state : record old.state { drawn = Some (last from.newest + 1) } ≡ new.state =
      sym (now ∙ ap (λ u. record old.state { drawn = Some u }) x.0) in
      goes_at bounds (λ refused. draws refused engine k old.state bounds) [] (reply.Drawn (last from.newest
      + 1)) (reply.Drawn t) (drew bounds engine k old.state)
      (engine_with (network_state to) ticks names (slice_set slots k (session new.state)))
      (λ later. ap (λ b. cond b (goes (drew bounds engine k old.state) (reply.Drawn (last from.newest
      + 1)) later) (stops cause.Order)) can)
      (λ i. engine_with (sym events i) ticks names (slice_set slots k (session (state i))))
      (ap reply.Drawn (sym x.0)))

-- ---- what is not allowed

module _ (bounds : List Key) (old : Seated) (network : NetworkParts) where
  pub declare_late : (terms : Terms) → is_declared old.state ≡ true
      → Did bounds (λ refused engine k s. declares refused engine k s bounds terms) (Err cause.Order) old old network
      network
  declare_late terms late =
      stops_at bounds (λ refused engine k s. declares refused engine k s bounds terms) old network
      (is_declared old.state)
      (λ refused engine k. cond (exceeds old.state.buffer terms) (goes engine reply.TooManyKeys refused)
      (goes (placed refused engine k old.state bounds terms) reply.Fine refused)) cause.Order
      (λ refused engine k. refl) late

  pub draw_early : can_draw old.state ≡ false → Did bounds (λ refused engine k s. draws refused engine k s bounds)
      (Err cause.Order) old old network network
  draw_early cannot =
      stops_but bounds (λ refused engine k s. draws refused engine k s bounds) old network (can_draw old.state)
      (λ refused engine k. goes (drew bounds engine k old.state) (reply.Drawn (last engine.network.history
      + 1)) refused) cause.Order (λ refused engine k. refl) cannot

-- ---- by the name to hold under

module _ (bounds : List Key) (turn inner : SessionTurn) where
  -- a turn that is another, at the stage from which it was done
  pub did_as : (old new : Seated) (from to : NetworkParts) (r : Result ScriptReply Cause)
      → ((refused : List Bool) (engine : EngineState) (k : ℕ) → engine.network ≡ network_state from
      → turn refused engine k old.state ≡ inner refused engine k old.state)
      → Did bounds inner r old new from to → Did bounds turn r old new from to
  did_as old new from to (Ok said) is did =
      acts_so old.seat new.seat from to _ _ did
      (λ goes ticks names slots k number there. (
        (goes ticks names slots k number there).0,
        λ later. subst (Leads bounds (λ next told left. (next
            ≡ engine_with (network_state to) ticks names (slice_set slots k (session new.state))) × (told ≡ said)
            × (left ≡ later)) (λ c. ⊥))
            (sym (is ((goes ticks names slots k number there).0
            ++ later) (engine_with (network_state from) ticks names slots) k refl))
            ((goes ticks names slots k number there).1 later),
      ))
  did_as old new from to (Err c) is (same, network, halts) = (
    same,
    network,
    λ refused ticks names slots k. is refused (engine_with (network_state from) ticks names slots) k
        refl ∙ halts refused ticks names slots k,
  )

module _ (bounds : List Key) (what : Call Text) (delivery : Delivery Text) (old : Seated) (from : NetworkParts) where
  abbrev sending : SessionTurn
  sending = λ refused engine k s. sends refused engine k s bounds what delivery

  -- by whether its request may go, and whether it would be one too many that is held
  abbrev by_tests : Bool → Bool → List Bool → EngineState → ℕ → Transition
  by_tests may many refused engine k = cond (not may) (stops cause.Name)
      (cond many (stops cause.Sessions) (sends_by refused engine k old.state bounds what delivery))

  -- a name to hold under that is in use, or no name
  pub held_amiss : may_go (network_state from) delivery ≡ false → Did bounds sending (Err cause.Name) old old from from
  held_amiss amiss = (
    refl,
    (from.delivery, refl),
    λ refused ticks names slots k.
        ap (λ b. by_tests b (is_too_many (network_state from) old.state what delivery) refused
        (engine_with (network_state from) ticks names slots) k) amiss,
  )

  module _ (may : may_go (network_state from) delivery ≡ true) where
    -- one request too many
    pub held_many : is_too_many (network_state from) old.state what delivery ≡ true
        → Did bounds sending (Err cause.Sessions) old old from from
    held_many many = (
      refl,
      (from.delivery, refl),
      λ refused ticks names slots k. λ i. by_tests (may i) (many i) refused
          (engine_with (network_state from) ticks names slots) k,
    )

    pub goes_on : is_too_many (network_state from) old.state what delivery ≡ false
        → (new : Seated) (to : NetworkParts) (r : Result ScriptReply Cause)
        → Did bounds (λ refused engine k s. sends_by refused engine k s bounds what delivery) r old new from to
        → Did bounds sending r old new from to
    goes_on few new to r did =
        did_as bounds sending (λ refused engine k s. sends_by refused engine k s bounds what delivery) old new from to r
        (λ refused engine k at. λ i. by_tests ((ap (λ s. may_go s delivery) at ∙ may) i)
        ((ap (λ s. is_too_many s old.state what delivery) at ∙ few) i) refused engine k) did
