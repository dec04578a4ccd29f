-- What a delivery gives is its turn.
use Rattle.std.proofs.Common.{◌≡◌, ◌+◌, ℕ, suc, Bool, true, false, List, [], ◌∷◌, ◌++◌, map, length, Option, Some, None, option_map, Result, Ok, Err, inl, inr, refl, sym, ap, subst, ◌∙◌, arith}
use Rattle.std.specs.Prelude.{◌⊎◌}
use Rattle.std.specs.List.{sum_by}
use Rattle.tx_types.specs.declared.fault.Cause.{Cause}
use Rattle.tx_types.specs.declared.fault.Cause.TheVariants as cause
use Rattle.tx_types.specs.declared.key.Key.{Key}
use Rattle.tx_plan.specs.declared.answer.Answer.{Answer}
use Rattle.tx_journal.specs.Known.{Known}
use Rattle.tx_journal.specs.Replies.{Asked, Given}
use Rattle.tx_client.specs.Learns.{response_by}
use Rattle.tx_reply.specs.declared.reply.ScriptReply.{ScriptReply}
use Rattle.tx_reply.specs.declared.reply.ScriptReply.TheVariants as reply
use Rattle.tx_network.specs.Networks.{NetworkParts, region_for, made_by, Hands, request_at, IsTraced, network_state}
use Rattle.tx_steps.specs.declared.step.Step.TheVariants as step
use Rattle.tx_ops.specs.Calls.{read_reply}
use Rattle.tx_engine.specs.Semantics.{SlotState, goes, delivers, turn}
use Rattle.tx_engine.specs.Plays.{Leads}
use Rattle.tx_engine.specs.Slots.{seat_in, slot_of, Held, name_at, engine_with, engine_state, made_in, AreSeated, AllSeated, Goes, GoesTo, Handed, Delivered, Turned}
use Rattle.tx_network.proofs.Walks.{take_one}
use Rattle.tx_engine.proofs.SlotCounts.{rested, seated_fewer, known_ticks}
use Rattle.tx_engine.proofs.Turns.{goes_at, asked_leads}

module _ (bounds : List Key) (name : List ℕ) where
  held_is : (from : NetworkParts) (o : Option Asked) → request_at from.held name ≡ o
      → (network_state from).held name ≡ option_map (λ (r : Asked). r.body) o
  held_is from o is = ap (option_map (λ (r : Asked). r.body)) is

  -- nothing is held under the name
  pub not_held : (from to : NetworkParts) → request_at from.held name ≡ None → to ≡ from
      → Delivered bounds name (Err cause.Name) from to
  not_held from to none same = (
    same,
    λ refused ticks names slots.
        ap (delivers bounds refused (engine_with (network_state from) ticks names slots)) (held_is from None none),
  )

  module _ (from to : NetworkParts) (q : Asked) (there : request_at from.held name ≡ Some q) where
    delivers_is : (refused : List Bool) (ticks : ℕ) (names : List ℕ → Option ℕ) (slots : List SlotState)
        → delivers bounds refused (engine_with (network_state from) ticks names slots) ((network_state from).held name)
        ≡ delivers bounds refused (engine_with (network_state from) ticks names slots) (Some q.body)
    delivers_is refused ticks names slots = ap (delivers bounds refused
        (engine_with (network_state from) ticks names slots)) (held_is from (Some q) there)

    -- memory for a copy is refused
    pub not_copied : to ≡ from → Handed bounds name reply.OutOfMemory from to
    not_copied same = record {
      made = 0;
      counts = omega (arith, ap (λ (d : NetworkParts). sum_by made_by d.regions) same);
      grows = omega (arith, ap (λ (d : NetworkParts). length d.newest) same);
      traced = λ le. subst IsTraced (sym same);
      exact = λ le ticks names slots.
          goes_at bounds (λ refused. delivers bounds refused (engine_with (network_state from) ticks names slots)
          ((network_state from).held name)) (true
          ∷ []) reply.OutOfMemory reply.OutOfMemory (engine_with (network_state from) ticks names slots)
          (engine_with (network_state to) ticks names slots)
          (λ later. delivers_is (true ∷ later) ticks names slots)
          (λ i. engine_with (network_state (sym same i)) ticks names slots) refl;
    }

    -- its region took a copy
    pub delivered : (g : Given) → Hands (region_for bounds q.body) from to q g → (said : ScriptReply)
        → read_reply (response_by g.answer) ≡ said → Handed bounds name said from to
    delivered g hands said is =
        let one = take_one bounds from to q g hands in
        record {
          made = one.made;
          counts = one.counts;
          grows = one.grows;
          traced = one.traced;
          exact = λ le ticks names slots.
              (let engine = engine_with (network_state from) ticks names slots in
              let led = asked_leads bounds (λ later n told left. (n ≡ engine_with (network_state to) ticks names slots)
              × (told ≡ said) × (left ≡ later)) engine q.body (response_by g.answer) (network_state to)
              (one.exact le) (λ c next left. goes next (read_reply c) left) in (
                false ∷ led.0,
                λ later. subst (Leads bounds (λ n told left. (n ≡ engine_with (network_state to) ticks names slots)
                    × (told ≡ said) × (left ≡ later)) (λ c. ⊥)) (sym (delivers_is (false
                    ∷ (led.0 ++ later)) ticks names slots)) (led.1 later later (refl, is, refl)),
              ));
        }

    -- what came of it, by its answer
    pub handed : (o : Option Answer) → ((o ≡ None) × (to ≡ from))
        ⊎ ((g : Given) × Hands (region_for bounds q.body) from to q g × (o ≡ g.answer)) → (said : ScriptReply)
        → read_reply (response_by o) ≡ said → Handed bounds name said from to
    handed o (inl (none, same)) said is = subst (λ r. Handed bounds name r from to)
        (ap (λ x. read_reply (response_by x)) (sym none) ∙ is) (not_copied same)
    handed o (inr (g, hands, same)) said is = delivered g hands said
        (ap (λ x. read_reply (response_by x)) (sym same) ∙ is)

  -- ---- the step

  pub seats_stay : (old new : Held) → new.system_seat ≡ old.system_seat → new.slots ≡ old.slots → (n : ℕ)
      → AllSeated bounds (suc n) old → AllSeated bounds n new
  seats_stay old new system_seat slots n h = record {
    system_seat = ap (λ (c : Known). c.seat) system_seat ∙ h.system_seat;
    slots = subst (AreSeated (length bounds + 2) n) (sym slots) (seated_fewer (length bounds
        + 2) (suc n) n old.slots (omega arith) h.slots);
  }

  -- What an engine's delivery gives, where nothing else of the engine changes.
  pub step_delivered : (old new : Held) → new.system_seat ≡ old.system_seat → new.names ≡ old.names
      → new.slots ≡ old.slots → (r : Result ScriptReply Cause) → Delivered bounds name r old.network new.network
      → Goes bounds old new (Turned bounds (step.Deliver name) r old new)
  step_delivered old new system_seat names slots (Ok said) handed = record {
    made = handed.made;
    counts = omega (arith, handed.counts, ap made_by system_seat, ap (sum_by (λ p. made_in (seat_in p))) slots);
    size = ap length slots;
    seated = seats_stay old new system_seat slots;
    grows = handed.grows;
    traced = handed.traced;
    exact = λ le. subst (GoesTo bounds (λ refused. turn bounds refused (step.Deliver name) (engine_state old)) said)
        (λ i. engine_with (network_state new.network) (known_ticks (sym system_seat i)) (λ q. name_at (sym names i) q)
        (map slot_of (sym slots i)))
        (handed.exact le old.system_seat.ticks (λ q. name_at old.names q) (map slot_of old.slots));
  }
  step_delivered old new system_seat names slots (Err c) (network, halts) =
      rested bounds old new (ap (λ (d : NetworkParts). d.regions) network) (ap (λ (d : NetworkParts). d.newest) network)
      (ap (λ (d : NetworkParts). d.trace) network) system_seat slots _ (
        λ i. engine_with (network_state (network i)) (known_ticks (system_seat i)) (λ q. name_at (names i) q)
            (map slot_of (slots i)),
        λ later. halts later old.system_seat.ticks (λ q. name_at old.names q) (map slot_of old.slots),
      )
