-- What it gives to resolve a lock that a session met, and to collect.
use Rattle.std.proofs.Common.{◌≡◌, ℕ, Bool, true, false, cond, List, [], ◌∷◌, ◌++◌, map, length, slice_get, slice_set, Option, Some, None, option_map, is_some, Result, Ok, Err, inl, inr, refl, sym, ap, subst, ◌∙◌, append_assoc, arith}
use Rattle.std.proofs.lemmas.List.{map-set}
use Rattle.std.proofs.lemmas.Option.{slice_get-map}
use Rattle.tx_types.specs.declared.fault.Cause.{Cause}
use Rattle.tx_types.specs.declared.fault.Cause.TheVariants as cause
use Rattle.tx_types.specs.declared.fault.Fault.{Fault}
use Rattle.tx_types.specs.declared.key.Key.{Key}
use Rattle.tx_types.specs.declared.lock.LockInfo.{LockInfo}
use Rattle.tx_core.specs.Recording.{part}
use Rattle.tx_journal.specs.Known.{Known}
use Rattle.tx_client.specs.Calls.{Seated}
use Rattle.tx_transaction.specs.Sessions.{notes_one, with_passed}
use Rattle.tx_client.specs.declared.resolved.Status.TheVariants as status
use Rattle.tx_client.specs.declared.resolved.WaitCause.TheVariants as wait
use Rattle.tx_client.specs.Statuses.{FoundStatus, lies_above}
use Rattle.tx_resolve.specs.declared.collector.Counts.{Counts}
use Rattle.tx_resolve.specs.BlockedReads.{read_walk}
use Rattle.tx_resolve.specs.Collection.{gc_walk}
use Rattle.tx_reply.specs.declared.reply.ScriptReply.{ScriptReply}
use Rattle.tx_reply.specs.declared.reply.ScriptReply.TheVariants as reply
use Rattle.tx_engine.specs.declared.slots.SessionSlot.TheVariants.{Live, Lent}
use Rattle.tx_steps.specs.declared.delivery.Delivery.TheVariants as deliveries
use Rattle.tx_network.specs.Networks.{NetworkParts, made_by, network_state, Runs}
use Rattle.tx_steps.specs.declared.op.Op.TheVariants as op
use Rattle.tx_steps.specs.declared.step.Step.TheVariants as step
use Rattle.tx_ops.specs.Edits.{is_refused, later_of}
use Rattle.tx_engine.specs.Semantics.{SlotState, session, EngineState, goes, stops, at_network, seat_at, with_session, learnt, learns, resolves_by, resolves, collected_as, live_at, in_session, turn}
use Rattle.tx_engine.specs.Plays.{Leads}
use Rattle.tx_engine.specs.Slots.{SlotContent, slot_of, Held, name_at, engine_with, engine_state, AllSeated, Serves, Goes, SessionGoes, Learnt, Resolves, Turned}
use Rattle.tx_engine.proofs.SlotCounts.{set_here, at_place_of, found, served}
use Rattle.tx_engine.proofs.Turns.{runs_lead}
use Rattle.tx_engine.proofs.Engines.{put, back, is_live, step_stops}

module _ (bounds : List Key) (now : ℕ) where
  -- ---- no lock was met

  unmet : (s : Seated) (o : Option LockInfo) → is_some o ≡ false → (refused : List Bool) (engine : EngineState) (k : ℕ)
      → resolves_by bounds refused engine k s.state now o ≡ stops cause.Order
  unmet s None none refused engine k = refl
  unmet s (Some met) none refused engine k = absurd (cc (none))

  pub resolve_none : (s : Seated) (system_seat : Known) (network : NetworkParts) → is_some s.state.met ≡ false
      → Resolves bounds now (Err cause.Order) s s system_seat system_seat network network
  resolve_none s system_seat network none = (refl, refl, refl, unmet s s.state.met none)

  -- ---- it is resolved

  module _ (old new : Seated) (k m : Known) (from to : NetworkParts) (met : LockInfo) (some : old.state.met
      ≡ Some met) (f : FoundStatus) (start : f.start ≡ met.start) (said : ScriptReply) where
    abbrev Ran : Type 0
    Ran = Runs bounds (Some deliveries.Taken) (network_state from) (read_walk met old.state.start now) f.status
        (network_state to)

    abbrev Then : Type 0
    Then = SessionGoes bounds (λ refused engine j s. resolves bounds refused engine j s now) old.seat.seat old.state
        new.state (network_state from) (network_state to) said

    -- by the bits of what it learns
    by_bits : Ran → (bits : List Bool) (told : ScriptReply) (next : EngineState → ℕ → EngineState)
        → ((later : List Bool) (engine : EngineState) (j : ℕ)
        → learns (at_network engine (network_state to)) j old.state met f.status (bits ++ later)
        ≡ goes (next engine j) told later)
        → ((ticks : ℕ) (names : List ℕ → Option ℕ) (slots : List SlotState) (j : ℕ)
        → slice_get slots j ≡ Some (session old.state)
        → next (engine_with (network_state from) ticks names slots) j
        ≡ engine_with (network_state to) ticks names (slice_set slots j (session new.state))) → told ≡ said → Then
    by_bits run bits told next is there same ticks names slots j number at =
        let engine = engine_with (network_state from) ticks names slots in
        let last = engine_with (network_state to) ticks names (slice_set slots j (session new.state)) in
        let led = runs_lead bounds (λ later n t left. (n ≡ last) × (t ≡ said)
        × (left ≡ later)) deliveries.Taken (read_walk met old.state.start now) engine f.status
        (network_state to) run (λ found n rest. learns n j old.state met found rest) in (
          led.0 ++ bits,
          λ later.
              let goal = Leads bounds (λ n t left. (n ≡ last) × (t ≡ said) × (left ≡ later)) (λ c. ⊥) in
              subst goal (sym (ap (resolves_by bounds ((led.0 ++ bits) ++ later) engine j old.state now) some))
              (subst (λ all. goal (resolves_by bounds all engine j old.state now (Some met)))
              (sym (append_assoc led.0 bits later))
              (led.1 later (bits ++ later) (subst goal (sym (is later engine j)) (
                there ticks names slots j at,
                same,
                refl,
              )))),
        )

    -- what a session that learns goes on to
    abbrev Next : List Bool → Type 0
    Next bits = (later : List Bool) (engine : EngineState) (j : ℕ)
        → learns (at_network engine (network_state to)) j old.state met f.status (bits ++ later)
        ≡ learnt (at_network engine (network_state to)) j old.state met f.status later

    learns_some : (bits : List Bool) × Next bits
    learns_some = by_need (notes_one old.state met.start (lies_above f.status old.state.start))
      where
        by_need : (b : Bool) → (bits : List Bool) × ((later : List Bool) (engine : EngineState) (j : ℕ)
            → cond b (cond (is_refused (bits ++ later))
            (goes (at_network engine (network_state to)) (reply.Status (status.Waiting wait.OutOfMemory))
            (later_of (bits ++ later))) (learnt (at_network engine (network_state to)) j old.state met f.status
            (later_of (bits ++ later))))
            (learnt (at_network engine (network_state to)) j old.state met f.status (bits ++ later))
            ≡ learnt (at_network engine (network_state to)) j old.state met f.status later)
        by_need true = (false ∷ [], λ later engine j. refl)
        by_need false = ([], λ later engine j. refl)

    -- memory for one more start is refused
    learns_none : notes_one old.state f.start (lies_above f.status old.state.start) ≡ true
        → (later : List Bool) (engine : EngineState) (j : ℕ)
        → learns (at_network engine (network_state to)) j old.state met f.status (true ∷ later)
        ≡ goes (at_network engine (network_state to)) (reply.Status (status.Waiting wait.OutOfMemory)) later
    learns_none one later engine j = by_need (notes_one old.state met.start (lies_above f.status old.state.start))
        (ap (λ t. notes_one old.state t (lies_above f.status old.state.start)) (sym start) ∙ one)
      where
        by_need : (b : Bool) → b ≡ true → cond b (goes (at_network engine (network_state to))
            (reply.Status (status.Waiting wait.OutOfMemory)) later)
            (learnt (at_network engine (network_state to)) j old.state met f.status (true ∷ later))
            ≡ goes (at_network engine (network_state to)) (reply.Status (status.Waiting wait.OutOfMemory)) later
        by_need true is = refl
        by_need false is = absurd (cc (is))

    by_learnt : Ran → Learnt bounds f said old new → Then
    by_learnt run (inl (is, state, heard)) =
        by_bits run learns_some.0 (reply.Status f.status)
        (λ engine j. with_session (at_network engine (network_state to)) j
        (with_passed old.state met.start (lies_above f.status old.state.start))) learns_some.1
        (λ ticks names slots j at.
        let after : with_passed old.state met.start (lies_above f.status old.state.start) ≡ new.state =
        ap (λ t. with_passed old.state t (lies_above f.status old.state.start)) (sym start) ∙ sym state in
        λ i. engine_with (network_state to) ticks names (slice_set slots j (session (after i)))) (sym is)
    by_learnt run (inr (is, one, same)) =
        by_bits run (true ∷ []) (reply.Status (status.Waiting wait.OutOfMemory))
        (λ engine j. at_network engine (network_state to)) (learns_none one)
        (λ ticks names slots j at.
        let stays : slots ≡ slice_set slots j (session new.state) =
        sym (set_here slots j (session old.state) at) ∙ ap (λ (s : Seated). slice_set slots j (session s.state))
        (sym same) in
        λ i. engine_with (network_state to) ticks names (stays i)) (sym is)

    seat_kept : Learnt bounds f said old new → new.seat.seat ≡ old.seat.seat
    seat_kept (inl (is, state, heard)) = heard.number
    seat_kept (inr (is, one, same)) = ap (λ (s : Seated). s.seat.seat) same

    ticks_kept : Learnt bounds f said old new → new.seat.ticks ≡ old.seat.ticks
    ticks_kept (inl (is, state, heard)) = heard.ticks
    ticks_kept (inr (is, one, same)) = ap (λ (s : Seated). s.seat.ticks) same

    own_kept : Learnt bounds f said old new → made_by new.seat ≡ made_by old.seat
    own_kept (inl (is, state, heard)) = ap (λ i. length (part i new.seat.events)) heard.number ∙ ap length heard.own
    own_kept (inr (is, one, same)) = ap (λ (s : Seated). made_by s.seat) same

    pub resolve_found : m.ticks ≡ k.ticks → Serves k m from to Ran → Learnt bounds f said old new
        → Resolves bounds now (Ok said) old new k m from to
    resolve_found left serves learnt = record {
      made = serves.made;
      counts = (let same = own_kept learnt in omega (arith, same, serves.counts));
      seat = seat_kept learnt;
      ticks = ticks_kept learnt;
      system_seat = serves.seat;
      left = left;
      grows = serves.grows;
      traced = serves.traced;
      exact = λ le. by_learnt (serves.exact le) learnt;
    }

  -- ---- the step

  module _ (old : Held) (name : List ℕ) where
    pub resolve_stops : live_at (engine_state old) name ≡ None → (later : List Bool)
        → turn bounds later (step.Act name (op.Resolve now)) (engine_state old) ≡ stops cause.Name
    resolve_stops none later = ap (λ o. in_session o (λ k s. resolves bounds later (engine_state old) k s now)) none

    module _ (k : ℕ) (s : Seated) (named : name_at old.names name ≡ Some k) (there : slice_get old.slots k
        ≡ Some (Live s)) (ready : AllSeated bounds 1 old) where
      pub step_resolved : (new : Held) (t : Seated) (lent : List SlotContent) → lent ≡ slice_set old.slots k Lent
          → new.slots ≡ slice_set lent k (Live t) → new.names ≡ old.names → (r : Result ScriptReply Cause)
          → Resolves bounds now r s t old.system_seat new.system_seat old.network new.network
          → Goes bounds old new (Turned bounds (step.Act name (op.Resolve now)) r old new)
      step_resolved new t lent lends placed names (Ok said) did =
          let is : new.slots ≡ slice_set old.slots k (Live t) = put old.slots lent new.slots k (Live t) lends placed in
          let number : s.seat.seat ≡ seat_at bounds k =
          (at_place_of bounds 1 k old (Live s) s.seat there refl ready).0 in
          let lives_there : slice_get (map slot_of old.slots) k ≡ Some (session s.state) =
          slice_get-map slot_of old.slots k ∙ ap (option_map slot_of) there in
          found bounds old new k (Live s) (Live t) there is s.seat t.seat refl refl _ _ did
          (λ x. let led = x old.system_seat.ticks (λ q. name_at old.names q) (map slot_of old.slots) k number
          lives_there in
          let after : map slot_of new.slots ≡ slice_set (map slot_of old.slots) k (session t.state) =
          ap (map slot_of) is ∙ map-set slot_of old.slots k (Live t) in
          let left : new.system_seat.ticks ≡ old.system_seat.ticks = did.left in
          let engine : engine_with (network_state new.network) old.system_seat.ticks (λ q. name_at old.names q)
          (slice_set (map slot_of old.slots) k (session t.state)) ≡ engine_state new =
          λ i. engine_with (network_state new.network) (sym left i) (λ q. name_at (sym names i) q) (sym after i) in (
            led.0,
            λ later. subst (λ next. Leads bounds (λ n told left. (n ≡ next) × (told ≡ said)
                × (left ≡ later)) (λ c. ⊥) (turn bounds (led.0
                ++ later) (step.Act name (op.Resolve now)) (engine_state old))) engine
                (subst (Leads bounds _ (λ c. ⊥)) (sym (ap (λ o. in_session o (λ j y. resolves bounds (led.0
                ++ later) (engine_state old) j y now)) (is_live bounds old name k named s there))) (led.1 later)),
          ))
      step_resolved new t lent lends placed names (Err c) (same, system_seat, network, halts) =
          let is : new.slots ≡ old.slots = back old.slots lent new.slots k (Live s) there lends
          (placed ∙ ap (λ x. slice_set lent k (Live x)) same) in
          step_stops bounds old new (step.Act name (op.Resolve now)) c network system_seat names is
          (λ later. ap (λ o. in_session o (λ j y. resolves bounds later (engine_state old) j y now))
          (is_live bounds old name k named s there) ∙ halts later (engine_state old) k)

-- old versions are collected
pub step_collected : (bounds : List Key) (old new : Held) (safe : ℕ) (r : Result Counts Fault) (said : ScriptReply)
    → said ≡ collected_as r → new.names ≡ old.names → new.slots ≡ old.slots
    → new.system_seat.ticks ≡ old.system_seat.ticks
    → Serves old.system_seat new.system_seat old.network new.network
    (Runs bounds (Some deliveries.Taken) (network_state old.network) (gc_walk bounds safe) r
    (network_state new.network)) → Goes bounds old new (Turned bounds (step.Gc safe) (Ok said) old new)
step_collected bounds old new safe r said is names slots ticks serves =
    served bounds old new _ _ slots serves
    (λ run.
    let there : at_network (engine_state old) (network_state new.network) ≡ engine_state new =
    λ i. engine_with (network_state new.network) (sym ticks i) (λ q. name_at (sym names i) q)
    (map slot_of (sym slots i)) in
    let led = runs_lead bounds (λ later n told left. (n ≡ engine_state new) × (told ≡ said)
    × (left ≡ later)) deliveries.Taken (gc_walk bounds safe) (engine_state old) r (network_state new.network) run
    (λ x next left. goes next (collected_as x) left) in (
      led.0,
      λ later. led.1 later later (there, sym is, refl),
    ))
