-- The steps of the engine, by what its calls give.
use Rattle.std.proofs.Common.{◌≡◌, ◌≤◌, ◌<◌, ◌+◌, ◌-◌, ℕ, nat_eq, nat_le, cond, Bool, true, false, not, List, [], ◌∷◌, ◌++◌, map, length, slice_get, slice_set, Option, Some, None, option_map, is_some, bytes_eq, string_bytes, Result, Ok, Err, refl, sym, ap, subst, ◌∙◌, arith, String, Global}
use Rattle.std.specs.Map.{update}
use Rattle.std.specs.BTreeMap.{BTreeMap, is_at, get_by_text}
use Rattle.std.specs.Map.{lookup}
use Rattle.std.specs.Ordering.{nat_cmp}
use Rattle.std.specs.Cmp.Lexicographic.{slice_cmp}
use Rattle.std.proofs.lemmas.Bool.{le-leb, lt-leb}
use Rattle.std.proofs.lemmas.Map.Text.{is_eq-slice_cmp}
use Rattle.std.specs.Bool.{if◌then◌else◌}
use Rattle.std.specs.Result.{is_err, is_ok, OnOk, OnErr}
use Rattle.std.proofs.lemmas.List.{set-set, map-set}
use Rattle.std.proofs.lemmas.Option.{slice_get-map, slice_get_past}
use Rattle.tx_types.specs.declared.fault.Cause.{Cause}
use Rattle.tx_types.specs.declared.fault.Cause.TheVariants as cause
use Rattle.tx_types.specs.declared.key.Key.{Key}
use Rattle.tx_plan.specs.declared.body.Body.TheVariants as request
use Rattle.tx_core.specs.declared.event.Event.TheVariants.{Began, Drawn, Answered, Stopped}
use Rattle.tx_core.specs.declared.event.Outcome.{Outcome}
use Rattle.tx_core.specs.Histories.{History, last}
use Rattle.tx_journal.specs.Known.{Known}
use Rattle.tx_transaction.specs.Returns.{Response}
use Rattle.tx_client.specs.Calls.{Seated}
use Rattle.tx_transaction.specs.Sessions.{begun, finish_of}
use Rattle.tx_ops.specs.Calls.{read_reply}
use Rattle.tx_engine.specs.declared.slots.SessionSlot.TheVariants.{Free, Live, Lent}
use Rattle.tx_reply.specs.declared.reply.ScriptReply.{ScriptReply}
use Rattle.tx_reply.specs.declared.reply.ScriptReply.TheVariants as reply
use Rattle.tx_types.specs.Names.{is_name}
use Rattle.tx_network.specs.Networks.{NetworkParts, network_state, with_events, Met}
use Rattle.tx_steps.specs.declared.op.Op.TheVariants as op
use Rattle.tx_steps.specs.declared.step.Step.{Step}
use Rattle.tx_steps.specs.declared.step.Step.TheVariants as step
use Rattle.tx_steps.specs.Steps.{Text}
use Rattle.tx_types.specs.Lengths.{is_key}
use Rattle.tx_engine.specs.Semantics.{EngineState, Transition, free, session, goes, stops, asked, at_network, at_history, seat_at, began, gone, ticked, first_free, lives, at_slot, live_at, in_session, finishes, finishes_by, leaves, turn}
use Rattle.tx_engine.specs.Plays.{Leads}
use Rattle.tx_engine.specs.Slots.{ActsIn, SlotContent, slot_of, Held, texts, name_at, engine_with, engine_state, AllSeated, Acts, Serves, Stays, Goes, Did, Turned, TurnedBy}
use Rattle.tx_engine.proofs.SlotCounts.{set_here, seated_at, at_place_of, acted, served, rested, known_ticks}
use Rattle.tx_engine.proofs.Turns.{goes_at, asked_leads}
use Rattle.tx_engine.proofs.SessionTurns.{SessionTurn}

-- a name in the map and in what contracts see of it
named_in : (entries : List (String Global × ℕ)) (q : List ℕ)
    → name_at (texts entries) q ≡ lookup (is_at (λ k. slice_cmp nat_cmp q (string_bytes k))) entries
named_in [] q = refl
named_in (e ∷ es) q = ap (λ b. cond b (Some e.1) (name_at (texts es) q)) (sym (is_eq-slice_cmp q (string_bytes e.0))) ∙
    ap (λ o. cond (is_at (λ k. slice_cmp nat_cmp q (string_bytes k)) e.0) (Some e.1) o) (named_in es q)

pub named : (m : BTreeMap (String Global) ℕ) (q : List ℕ) → name_at (texts m.entries) q ≡ get_by_text m q
named m q = named_in m.entries q

-- another slot for a name, or none
pub renamed : (old new : BTreeMap (String Global) ℕ) (name : List ℕ) (w : Option ℕ)
    → ((q : List ℕ) → get_by_text new q ≡ update bytes_eq (get_by_text old) name w q) → (q : List ℕ)
    → name_at (texts new.entries) q ≡ update bytes_eq (name_at (texts old.entries)) name w q
renamed old new name w sets q = named new q ∙ (sets q ∙ ap (λ o. cond (bytes_eq name q) w o) (sym (named old q)))

pub on_ok : {T E : Type 0} (P : Type 0) (r : Result T E) → false ≡ is_err r → OnOk r P → P
on_ok P (Ok x) e p = p
on_ok P (Err x) e p = absurd (cc (e))

pub on_err : {T E : Type 0} (P : Type 0) (r : Result T E) → true ≡ is_err r → OnErr r P → P
on_err P (Ok x) e p = absurd (cc (e))
on_err P (Err x) e p = p

-- what a push leaves
pub pushed : {X T E : Type 0} (r : Result T E) (new more old : List X) → false ≡ is_err r
    → new ≡ (if is_ok r then more else old) → new ≡ more
pushed (Ok x) new more old e is = is
pushed (Err x) new more old e is = absurd (cc (e))

pub not_pushed : {X T E : Type 0} (r : Result T E) (new more old : List X) → true ≡ is_err r
    → new ≡ (if is_ok r then more else old) → new ≡ old
not_pushed (Ok x) new more old e is = absurd (cc (e))
not_pushed (Err x) new more old e is = is

-- what is put at a slot that was lent
pub put : (ps qs rs : List SlotContent) (k : ℕ) (y : SlotContent) → qs ≡ slice_set ps k Lent → rs ≡ slice_set qs k y
    → rs ≡ slice_set ps k y
put ps qs rs k y lent is = is ∙ (ap (λ xs. slice_set xs k y) lent ∙ set-set ps k Lent y)

-- it was put back
pub back : (ps qs rs : List SlotContent) (k : ℕ) (x : SlotContent) → slice_get ps k ≡ Some x → qs ≡ slice_set ps k Lent
    → rs ≡ slice_set qs k x → rs ≡ ps
back ps qs rs k x there lent is = put ps qs rs k x lent is ∙ set_here ps k x there

module _ (bounds : List Key) where
  -- a turn that is not allowed
  turn_stays : (t : List Bool → EngineState → Transition) (old new : Held) (c : Cause)
      → Stays old.network new.network → new.system_seat ≡ old.system_seat → new.names ≡ old.names
      → new.slots ≡ old.slots → ((later : List Bool) → t later (engine_state old) ≡ stops c)
      → Goes bounds old new (TurnedBy bounds t (Err c) old new)
  turn_stays t old new c (delivery, network) system_seat names slots halts =
      let same : engine_state new ≡ engine_state old =
      λ i. engine_with (network_state (network i)) (known_ticks (system_seat i)) (λ q. name_at (names i) q)
      (map slot_of (slots i)) in
      rested bounds old new (ap (λ (d : NetworkParts). d.regions) network) (ap (λ (d : NetworkParts). d.newest) network)
      (ap (λ (d : NetworkParts). d.trace) network) system_seat slots _ (same, halts)

  pub turn_stops : (t : List Bool → EngineState → Transition) (old new : Held) (c : Cause)
      → new.network ≡ old.network → new.system_seat ≡ old.system_seat → new.names ≡ old.names
      → new.slots ≡ old.slots → ((later : List Bool) → t later (engine_state old) ≡ stops c)
      → Goes bounds old new (TurnedBy bounds t (Err c) old new)
  turn_stops t old new c network = turn_stays t old new c (old.network.delivery, network)

  -- a step that is not allowed
  pub step_stops : (old new : Held) (what : Step Text) (c : Cause) → new.network ≡ old.network
      → new.system_seat ≡ old.system_seat → new.names ≡ old.names → new.slots ≡ old.slots
      → ((later : List Bool) → turn bounds later what (engine_state old) ≡ stops c)
      → Goes bounds old new (Turned bounds what (Err c) old new)
  step_stops old new what c = turn_stops (λ refused engine. turn bounds refused what engine) old new c

  -- the turn of the live session of a name
  abbrev pub in_name : List ℕ → SessionTurn → List Bool → EngineState → Transition
  in_name name f refused engine = in_session (live_at engine name) (λ k s. f refused engine k s)

  -- ---- begin

  module _ (old : Held) (name : List ℕ) where
    pub begin_unnamed : not (is_name name) ≡ true → (later : List Bool)
        → turn bounds later (step.Begin name) (engine_state old) ≡ stops cause.Name
    begin_unnamed bad later = rw bad refl

    module _ (named : not (is_name name) ≡ false) where
      pub begin_taken : is_some (name_at old.names name) ≡ true → (later : List Bool)
          → turn bounds later (step.Begin name) (engine_state old) ≡ stops cause.Name
      begin_taken is later = rw (named, is) refl

      module _ (unnamed : is_some (name_at old.names name) ≡ false) where
        pub begin_full : first_free (map slot_of old.slots) ≡ None → (later : List Bool)
            → turn bounds later (step.Begin name) (engine_state old) ≡ stops cause.Sessions
        begin_full full later = rw (named, unnamed, full) refl

        module _ (k : ℕ) (first : first_free (map slot_of old.slots) ≡ Some k) where
          begin_refused_is : (later : List Bool) → turn bounds (true ∷ later) (step.Begin name) (engine_state old)
              ≡ goes (engine_state old) reply.OutOfMemory later
          begin_refused_is later = rw (named, unnamed, first) refl

          begun_is : (later : List Bool) → turn bounds (false ∷ later) (step.Begin name) (engine_state old)
              ≡ goes (began bounds (engine_state old) name k) (reply.Start (last old.network.newest + 1)) later
          begun_is later = rw (named, unnamed, first) refl

          -- no memory for its name
          pub step_refused : (new : Held) → new.network ≡ old.network → new.system_seat ≡ old.system_seat
              → new.slots ≡ old.slots → ((q : List ℕ) → name_at new.names q ≡ name_at old.names q)
              → Goes bounds old new (Turned bounds (step.Begin name) (Ok reply.OutOfMemory) old new)
          step_refused new network system_seat slots names =
              rested bounds old new (ap (λ (d : NetworkParts). d.regions) network)
              (ap (λ (d : NetworkParts). d.newest) network) (ap (λ (d : NetworkParts). d.trace) network) system_seat
              slots _
              (goes_at bounds (λ refused. turn bounds refused (step.Begin name) (engine_state old)) (true
              ∷ []) reply.OutOfMemory reply.OutOfMemory (engine_state old) (engine_state new) begin_refused_is
              (λ i. engine_with (network_state (sym network i)) (known_ticks (sym system_seat i)) (λ q. sym (names q) i)
              (map slot_of (sym slots i))) refl)

          pub step_begun : (new : Held) (seat : Known) (live : Seated) (lent : List SlotContent)
              → slice_get old.slots k ≡ Some (Free seat) → lent ≡ slice_set old.slots k Lent
              → new.slots ≡ slice_set lent k (Live live) → new.system_seat ≡ old.system_seat
              → ((q : List ℕ) → name_at new.names q ≡ update bytes_eq (name_at old.names) name (Some k) q)
              → AllSeated bounds 1 old
              → (said : ℕ) → live.state ≡ begun said
              → Acts seat live.seat old.network new.network ((said ≡ last old.network.newest + 1)
              × (network_state new.network ≡ with_events (network_state old.network) (Began (last old.network.newest
              + 1) ∷ Drawn seat.seat (last old.network.newest + 1) ∷ old.network.newest)))
              → Goes bounds old new (Turned bounds (step.Begin name) (Ok (reply.Start said)) old new)
          step_begun new seat live lent there lends placed system_seat names ready said state act =
              let is : new.slots ≡ slice_set old.slots k (Live live) =
              put old.slots lent new.slots k (Live live) lends placed in
              let number : seat.seat ≡ seat_at bounds k =
              (at_place_of bounds 1 k old (Free seat) seat there refl ready).0 in
              acted old new k (Free seat) (Live live) there is system_seat seat live.seat refl refl bounds _ _ act
              (λ x. goes_at bounds (λ refused. turn bounds refused (step.Begin name) (engine_state old)) (false
              ∷ []) _ _ _ _ begun_is
              (let t = last old.network.newest + 1 in
              let events : network_state new.network
              ≡ with_events (network_state old.network) (Began t ∷ Drawn (seat_at bounds k) t
              ∷ old.network.newest) = x.1 ∙ ap (λ n. with_events (network_state old.network) (Began t ∷ Drawn n t
              ∷ old.network.newest)) number in
              let there_is : map slot_of new.slots ≡ slice_set (map slot_of old.slots) k (session (begun t)) =
              ap (map slot_of) is ∙ (map-set slot_of old.slots k (Live live) ∙ ap
              (λ s. slice_set (map slot_of old.slots) k (session s)) (state ∙ ap begun x.0)) in
              λ i. engine_with (sym events i) (known_ticks (sym system_seat i)) (λ q. sym (names q) i) (sym there_is i))
              (ap reply.Start (sym x.0)))

  -- ---- the step of a session

  module _ (old : Held) (name : List ℕ) where
    pub no_name : name_at old.names name ≡ None → live_at (engine_state old) name ≡ None
    no_name none = ap (at_slot (map slot_of old.slots)) none

    module _ (k : ℕ) (named : name_at old.names name ≡ Some k) where
      at_name : (o : Option SlotContent) → slice_get old.slots k ≡ o
          → live_at (engine_state old) name ≡ lives k (option_map slot_of o)
      at_name o is = ap (at_slot (map slot_of old.slots)) named ∙ ap (lives k)
          (slice_get-map slot_of old.slots k ∙ ap (option_map slot_of) is)

      pub no_place : length old.slots ≤ k → live_at (engine_state old) name ≡ None
      no_place le = at_name None (slice_get_past old.slots k le)

      -- its slot is free, where the slots have seats
      pub is_free : (n : ℕ) (x : SlotContent) → slice_get old.slots k ≡ Some x → ((s : Seated) → x ≡ Live s → ⊥)
          → AllSeated bounds n old → live_at (engine_state old) name ≡ None
      is_free n (Free s) is never ready = at_name (Some (Free s)) is
      is_free n (Live s) is never ready = absurd (never s refl)
      is_free n Lent is never ready = absurd (seated_at (length bounds + 2) n k (length bounds + 2
          + k) old.slots Lent refl is ready.slots)

      pub not_live : (x : SlotContent) → slice_get old.slots k ≡ Some x → ((s : Seated) → x ≡ Live s → ⊥)
          → AllSeated bounds 1 old → live_at (engine_state old) name ≡ None
      not_live x is never ready = is_free 1 x is never ready

      pub is_live : (s : Seated) → slice_get old.slots k ≡ Some (Live s)
          → live_at (engine_state old) name ≡ Some (k, s.state)
      is_live s is = at_name (Some (Live s)) is

    pub act_stops : (f : SessionTurn) → live_at (engine_state old) name ≡ None → (later : List Bool)
        → in_name name f later (engine_state old) ≡ stops cause.Name
    act_stops f none later = ap (λ o. in_session o (λ k s. f later (engine_state old) k s)) none

    pub finish_stops : live_at (engine_state old) name ≡ None → (later : List Bool)
        → turn bounds later (step.Act name op.Finish) (engine_state old) ≡ stops cause.Name
    finish_stops none later = ap (λ o. in_session o (λ k s. finishes later (engine_state old) k s name)) none

    pub stop_stops : live_at (engine_state old) name ≡ None → (later : List Bool)
        → turn bounds later (step.Act name op.Stop) (engine_state old) ≡ stops cause.Name
    stop_stops none later = ap (λ o. in_session o (λ k s. leaves later (engine_state old) k s bounds name)) none

    module _ (k : ℕ) (s : Seated) (named : name_at old.names name ≡ Some k) (there : slice_get old.slots k
        ≡ Some (Live s)) (ready : AllSeated bounds 1 old) where
      number : s.seat.seat ≡ seat_at bounds k
      number = (at_place_of bounds 1 k old (Live s) s.seat there refl ready).0

      lives_there : slice_get (map slot_of old.slots) k ≡ Some (session s.state)
      lives_there = slice_get-map slot_of old.slots k ∙ ap (option_map slot_of) there

      -- it acts
      pub step_acted : (new : Held) (t : Seated) (lent : List SlotContent) → lent ≡ slice_set old.slots k Lent
          → new.slots ≡ slice_set lent k (Live t) → new.system_seat ≡ old.system_seat → new.names ≡ old.names
          → (f : SessionTurn) (r : Result ScriptReply Cause)
          → Did bounds f r s t old.network new.network
          → Goes bounds old new (TurnedBy bounds (in_name name f) r old new)
      step_acted new t lent lends placed system_seat names f (Ok said) did =
          let is : new.slots ≡ slice_set old.slots k (Live t) = put old.slots lent new.slots k (Live t) lends placed in
          acted old new k (Live s) (Live t) there is system_seat s.seat t.seat refl refl bounds _ _ did
          (λ x. let led = x old.system_seat.ticks (λ q. name_at old.names q) (map slot_of old.slots) k number
          lives_there in
          let now : map slot_of new.slots ≡ slice_set (map slot_of old.slots) k (session t.state) =
          ap (map slot_of) is ∙ map-set slot_of old.slots k (Live t) in
          let engine : engine_with (network_state new.network) old.system_seat.ticks (λ q. name_at old.names q)
          (slice_set (map slot_of old.slots) k (session t.state)) ≡ engine_state new =
          λ i. engine_with (network_state new.network) (known_ticks (sym system_seat i)) (λ q. name_at (sym names i) q)
          (sym now i) in (
            led.0,
            λ later. subst (λ next. Leads bounds (λ n told left. (n ≡ next) × (told ≡ said)
                × (left ≡ later)) (λ c. ⊥) (in_name name f (led.0 ++ later) (engine_state old))) engine
                (subst (Leads bounds _ (λ c. ⊥)) (sym (ap (λ o. in_session o (λ j y. f (led.0
                ++ later) (engine_state old) j y)) (is_live k named s there))) (led.1 later)),
          ))
      step_acted new t lent lends placed system_seat names f (Err c) (same, network, halts) =
          let is : new.slots ≡ old.slots = back old.slots lent new.slots k (Live s) there lends
          (placed ∙ ap (λ x. slice_set lent k (Live x)) same) in
          turn_stays (in_name name f) old new c network system_seat names is
          (λ later. ap (λ o. in_session o (λ j y. f later (engine_state old) j y)) (is_live k named s there) ∙ halts
          later old.system_seat.ticks (λ q. name_at old.names q) (map slot_of old.slots) k)

      -- it is gone
      gone_is : (new : Held) (seat : Known) (lent : List SlotContent) → lent ≡ slice_set old.slots k Lent
          → new.slots ≡ slice_set lent k (Free seat) → new.system_seat ≡ old.system_seat
          → ((q : List ℕ) → name_at new.names q ≡ update bytes_eq (name_at old.names) name None q)
          → (h : History) → network_state new.network ≡ with_events (network_state old.network) h
          → gone (at_history (engine_state old) h) name k ≡ engine_state new
      gone_is new seat lent lends placed system_seat names h is =
          let now : map slot_of new.slots ≡ slice_set (map slot_of old.slots) k free =
          ap (map slot_of) (put old.slots lent new.slots k (Free seat) lends placed) ∙ map-set slot_of old.slots k
          (Free seat) in
          λ i. engine_with (sym is i) (known_ticks (sym system_seat i)) (λ q. sym (names q) i) (sym now i)

      -- it answers its outcome
      pub step_finished : (new : Held) (seat : Known) (lent : List SlotContent) → lent ≡ slice_set old.slots k Lent
          → new.slots ≡ slice_set lent k (Free seat) → new.system_seat ≡ old.system_seat
          → ((q : List ℕ) → name_at new.names q ≡ update bytes_eq (name_at old.names) name None q)
          → (o : Outcome) → finish_of s.state ≡ Some o
          → Acts s.seat seat old.network new.network (network_state new.network
          ≡ with_events (network_state old.network) (Answered s.state.start o ∷ old.network.newest))
          → Goes bounds old new (Turned bounds (step.Act name op.Finish) (Ok (reply.Ended o)) old new)
      step_finished new seat lent lends placed system_seat names o ends act =
          acted old new k (Live s) (Free seat) there (put old.slots lent new.slots k (Free seat) lends placed)
          system_seat s.seat seat refl refl bounds _ _ act
          (λ x. goes_at bounds (λ refused. turn bounds refused (step.Act name op.Finish) (engine_state old)) []
          (reply.Ended o) (reply.Ended o) (gone (at_history (engine_state old) (Answered s.state.start o
          ∷ old.network.newest)) name k) (engine_state new)
          (λ later. ap (λ l. in_session l (λ j y. finishes later (engine_state old) j y name))
          (is_live k named s there) ∙ ap (finishes_by later (engine_state old) k s.state name) ends)
          (gone_is new seat lent lends placed system_seat names (Answered s.state.start o ∷ old.network.newest) x) refl)

      -- it has none yet
      pub step_unfinished : (new : Held) (t : Seated) (lent : List SlotContent) → lent ≡ slice_set old.slots k Lent
          → new.slots ≡ slice_set lent k (Live t) → new.system_seat ≡ old.system_seat → new.names ≡ old.names
          → finish_of s.state ≡ None → t.state ≡ s.state
          → Acts s.seat t.seat old.network new.network (network_state new.network ≡ network_state old.network)
          → Goes bounds old new (Turned bounds (step.Act name op.Finish) (Err cause.Order) old new)
      step_unfinished new t lent lends placed system_seat names ends state act =
          let is : new.slots ≡ slice_set old.slots k (Live t) = put old.slots lent new.slots k (Live t) lends placed in
          let slots : map slot_of new.slots ≡ map slot_of old.slots =
          ap (map slot_of) is ∙ (map-set slot_of old.slots k (Live t) ∙ (ap
          (λ y. slice_set (map slot_of old.slots) k (session y)) state ∙ set_here (map slot_of old.slots) k
          (session s.state) lives_there)) in
          acted old new k (Live s) (Live t) there is system_seat s.seat t.seat refl refl bounds _ _ act
          (λ x. (
            λ i. engine_with (x i) (known_ticks (system_seat i)) (λ q. name_at (names i) q) (slots i),
            λ later. ap (λ l. in_session l (λ j y. finishes later (engine_state old) j y name))
                (is_live k named s there) ∙ ap (finishes_by later (engine_state old) k s.state name) ends,
          ))

      -- it stops
      pub step_stopped : (new : Held) (seat : Known) (lent : List SlotContent) → lent ≡ slice_set old.slots k Lent
          → new.slots ≡ slice_set lent k (Free seat) → new.system_seat ≡ old.system_seat
          → ((q : List ℕ) → name_at new.names q ≡ update bytes_eq (name_at old.names) name None q)
          → Acts s.seat seat old.network new.network (network_state new.network
          ≡ with_events (network_state old.network) (Stopped s.seat.seat ∷ old.network.newest))
          → Goes bounds old new (Turned bounds (step.Act name op.Stop) (Ok reply.Fine) old new)
      step_stopped new seat lent lends placed system_seat names act =
          acted old new k (Live s) (Free seat) there (put old.slots lent new.slots k (Free seat) lends placed)
          system_seat s.seat seat refl refl bounds _ _ act
          (λ x. goes_at bounds (λ refused. turn bounds refused (step.Act name op.Stop) (engine_state old)) [] reply.Fine
          reply.Fine (gone (at_history (engine_state old) (Stopped (seat_at bounds k)
          ∷ old.network.newest)) name k) (engine_state new)
          (λ later. ap (λ l. in_session l (λ j y. leaves later (engine_state old) j y bounds name))
          (is_live k named s there))
          (gone_is new seat lent lends placed system_seat names (Stopped (seat_at bounds k)
          ∷ old.network.newest) (x ∙ ap (λ n. with_events (network_state old.network) (Stopped n
          ∷ old.network.newest)) number)) refl)

  -- ---- ticks

  pub tick_stops : (old : Held) (n : ℕ) → n ≡ 0 → (later : List Bool)
      → turn bounds later (step.Tick n) (engine_state old) ≡ stops cause.Form
  tick_stops old n none later = ap (λ m. turn bounds later (step.Tick m) (engine_state old)) none

  module _ (old new : Held) (n : ℕ) (some : nat_eq n 0 ≡ false) (names : new.names ≡ old.names) (slots : new.slots
      ≡ old.slots) where
    -- so many are drawn
    pub step_ticked : AllSeated bounds 1 old → (t : ℕ) → old.system_seat.ticks ≡ new.system_seat.ticks + n
        → Serves old.system_seat new.system_seat old.network new.network ((t ≡ last old.network.newest + n)
        × (network_state new.network ≡ with_events (network_state old.network)
        (Drawn old.system_seat.seat (last old.network.newest + n) ∷ old.network.newest)))
        → Goes bounds old new (Turned bounds (step.Tick n) (Ok (reply.Last t)) old new)
    step_ticked ready t ticks serves =
        let within : nat_le n old.system_seat.ticks ≡ true = le-leb n old.system_seat.ticks (omega (arith, ticks)) in
        served bounds old new _ _ slots serves
        (λ x. goes_at bounds (λ refused. turn bounds refused (step.Tick n) (engine_state old)) []
        (reply.Last (last old.network.newest + n)) (reply.Last t) (ticked bounds (engine_state old) n)
        (engine_state new)
        (λ later. rw (some, within) refl)
        (let events : network_state new.network ≡ with_events (network_state old.network) (Drawn (length bounds
        + 1) (last old.network.newest + n) ∷ old.network.newest) = x.1 ∙ ap
        (λ s. with_events (network_state old.network) (Drawn s (last old.network.newest + n)
        ∷ old.network.newest)) ready.system_seat in
        let left : old.system_seat.ticks - n ≡ new.system_seat.ticks = omega (arith, ticks) in
        λ i. engine_with (sym events i) (left i) (λ q. name_at (sym names i) q) (map slot_of (sym slots i)))
        (ap reply.Last (sym x.0)))

    -- the seat has not so many left
    pub step_spent : old.system_seat.ticks < n → new.system_seat.ticks ≡ old.system_seat.ticks
        → Serves old.system_seat new.system_seat old.network new.network (network_state new.network
        ≡ network_state old.network) → Goes bounds old new (Turned bounds (step.Tick n) (Ok reply.OracleSpent) old new)
    step_spent few ticks serves =
        let above : nat_le n old.system_seat.ticks ≡ false = lt-leb n old.system_seat.ticks few in
        served bounds old new _ _ slots serves
        (λ x. goes_at bounds (λ refused. turn bounds refused (step.Tick n) (engine_state old)) [] reply.OracleSpent
        reply.OracleSpent (engine_state old) (engine_state new)
        (λ later. rw (some, above) refl)
        (λ i. engine_with (sym x i) (sym ticks i) (λ q. name_at (sym names i) q) (map slot_of (sym slots i))) refl)

  -- ---- reads of no session

  module _ (old new : Held) (key : List ℕ) (at : ℕ) (names : new.names ≡ old.names) (slots : new.slots
      ≡ old.slots) where
    pub step_unkeyed : not (is_key key) ≡ true → new.network ≡ old.network → new.system_seat ≡ old.system_seat
        → Goes bounds old new (Turned bounds (step.Read key at) (Ok reply.KeyLength) old new)
    step_unkeyed bad network system_seat =
        rested bounds old new (ap (λ (d : NetworkParts). d.regions) network)
        (ap (λ (d : NetworkParts). d.newest) network) (ap (λ (d : NetworkParts). d.trace) network) system_seat slots
        _
        (goes_at bounds (λ refused. turn bounds refused (step.Read key at) (engine_state old)) [] reply.KeyLength
        reply.KeyLength (engine_state old) (engine_state new) (λ later. rw bad refl)
        (λ i. engine_with (network_state (sym network i)) (known_ticks (sym system_seat i))
        (λ q. name_at (sym names i) q) (map slot_of (sym slots i))) refl)

    module _ (right : not (is_key key) ≡ false) where
      pub step_unread : new.network ≡ old.network → new.system_seat ≡ old.system_seat
          → Goes bounds old new (Turned bounds (step.Read key at) (Ok reply.OutOfMemory) old new)
      step_unread network system_seat =
          rested bounds old new (ap (λ (d : NetworkParts). d.regions) network)
          (ap (λ (d : NetworkParts). d.newest) network) (ap (λ (d : NetworkParts). d.trace) network) system_seat
          slots _
          (goes_at bounds (λ refused. turn bounds refused (step.Read key at) (engine_state old)) (true
          ∷ []) reply.OutOfMemory reply.OutOfMemory (engine_state old) (engine_state new) (λ later. rw right refl)
          (λ i. engine_with (network_state (sym network i)) (known_ticks (sym system_seat i))
          (λ q. name_at (sym names i) q) (map slot_of (sym slots i))) refl)

      pub step_read : (c : Response) → new.system_seat.ticks ≡ old.system_seat.ticks
          → Serves old.system_seat new.system_seat old.network new.network
          (Met bounds (network_state old.network) (request.Get (record {
            key = key;
            at = at;
            bypass = [];
          })) c (network_state new.network))
          → Goes bounds old new (Turned bounds (step.Read key at) (Ok (read_reply c)) old new)
      step_read c ticks serves =
          served bounds old new _ _ slots serves
          (λ met.
          let body = request.Get (record { key = key; at = at; bypass = [] }) in
          let there : at_network (engine_state old) (network_state new.network) ≡ engine_state new =
          λ i. engine_with (network_state new.network) (sym ticks i) (λ q. name_at (sym names i) q)
          (map slot_of (sym slots i)) in
          let led = asked_leads bounds (λ later n said left. (n ≡ engine_state new) × (said ≡ read_reply c)
          × (left ≡ later)) (engine_state old) body c (network_state new.network) met
          (λ d next rest. goes next (read_reply d) rest) in
          let is : (later : List Bool) → turn bounds (false ∷ later) (step.Read key at) (engine_state old)
          ≡ asked bounds later (engine_state old) body (λ d next rest. goes next (read_reply d) rest) =
          λ later. rw right refl in (
            false ∷ led.0,
            λ later. subst (Leads bounds _ _) (sym (is (led.0 ++ later))) (led.1 later later (there, refl, refl)),
          ))

-- ---- the first free slot

first_after : (o : Option ℕ) (n : ℕ) → option_map (λ m. m + n) (option_map (λ m. m + 1) o)
    ≡ option_map (λ m. m + (n + 1)) o
first_after None n = refl
first_after (Some m) n = ap Some (let e : m + 1 + n ≡ m + (n + 1) = omega arith in e)

pub first_more : (p : SlotContent) (ps : List SlotContent) (n : ℕ) → ((k : Known) → p ≡ Free k → ⊥)
    → option_map (λ m. m + n) (first_free (map slot_of (p ∷ ps)))
    ≡ option_map (λ m. m + (n + 1)) (first_free (map slot_of ps))
first_more (Free k) ps n never = absurd (never k refl)
first_more (Live s) ps n never = first_after (first_free (map slot_of ps)) n
first_more Lent ps n never = first_after (first_free (map slot_of ps)) n

-- a step at a slot
module _ (bounds : List Key) (old : Held) (name : List ℕ) (k : ℕ) (named : name_at old.names name
    ≡ Some k) (ready : AllSeated bounds 1 old) where
  stays : (new : Held) (x y : SlotContent) → slice_get old.slots k ≡ Some x → ((s : Seated) → x ≡ Live s → ⊥)
      → new.slots ≡ slice_set old.slots k y → new.system_seat ≡ old.system_seat → new.names ≡ old.names
      → (f : SessionTurn) (r : Result ScriptReply Cause)
      → (r ≡ Err cause.Name) × (y ≡ x) × (new.network ≡ old.network)
      → Goes bounds old new (TurnedBy bounds (in_name bounds name f) r old new)
  stays new x y there never placed system_seat names f r (refused, same, network) =
      let is : new.slots ≡ old.slots = placed ∙ ap (slice_set old.slots k) same ∙ set_here old.slots k x there in
      subst (λ (o : Result ScriptReply Cause). Goes bounds old new (TurnedBy bounds (in_name bounds name f) o old new))
      (sym refused)
      (turn_stops bounds (in_name bounds name f) old new cause.Name network system_seat names is
      (act_stops bounds old name f (not_live bounds old name k named x there never ready)))

  pub step_in : (new : Held) (x y : SlotContent) → slice_get old.slots k ≡ Some x → new.slots ≡ slice_set old.slots k y
      → new.system_seat ≡ old.system_seat → new.names ≡ old.names → (f : SessionTurn) (r : Result ScriptReply Cause)
      → ActsIn bounds f x y r old.network new.network
      → Goes bounds old new (TurnedBy bounds (in_name bounds name f) r old new)
  step_in new (Live s) y there placed system_seat names f r (t, lives, did) =
      let lent = slice_set old.slots k Lent in
      step_acted bounds old name k s named there ready new t lent refl (placed ∙ ap (slice_set old.slots k) lives ∙ sym
      (put old.slots lent (slice_set lent k (Live t)) k (Live t) refl refl)) system_seat names f r did
  step_in new (Free s) y there placed system_seat names f r stopped =
      stays new (Free s) y there (λ live e. absurd (cc e)) placed system_seat names f r stopped
  step_in new Lent y there placed system_seat names f r stopped =
      stays new Lent y there (λ live e. absurd (cc e)) placed system_seat names f r stopped
