-- What a step gives that has a key shown is its turn.
use Rattle.std.proofs.Common.{◌≡◌, ◌≤◌, ℕ, Bool, true, false, List, [], ◌∷◌, ◌++◌, map, length, Option, Result, Ok, refl, sym, ap, subst, arith}
use Rattle.std.specs.List.{sum_by}
use Rattle.std.specs.Prelude.{IfOk}
use Rattle.tx_types.specs.declared.fault.Fault.{Fault}
use Rattle.tx_types.specs.declared.key.Key.{Key}
use Rattle.tx_cells.specs.declared.copies.KeyVersions.{KeyVersions}
use Rattle.tx_cells.specs.Copies.{Copies}
use Rattle.tx_core.specs.Histories.{left}
use Rattle.tx_core.specs.Worlds.{route}
use Rattle.tx_core.proofs.seats.Beginnings.{begins_length, begins_whole}
use Rattle.tx_reply.specs.declared.reply.ScriptReply.{ScriptReply}
use Rattle.tx_reply.specs.declared.reply.ScriptReply.TheVariants as reply
use Rattle.tx_network.specs.Networks.{NetworkParts, network_state, made_by, Displays}
use Rattle.tx_types.specs.Lengths.{is_key}
use Rattle.tx_engine.specs.Semantics.{EngineState, goes, shows, SlotState, inspects, turn}
use Rattle.tx_steps.specs.declared.step.Step.TheVariants as step
use Rattle.tx_engine.specs.Plays.{Leads}
use Rattle.tx_engine.specs.Slots.{seat_in, slot_of, Held, name_at, engine_with, engine_state, made_in, GoesTo, Goes, Inspected, Turned}
use Rattle.tx_network.proofs.Traces.{traced_same}
use Rattle.tx_engine.proofs.Deliveries.{seats_stay}
use Rattle.tx_engine.proofs.SlotCounts.{known_ticks}
use Rattle.tx_network.proofs.Stages.{same_network}
use Rattle.tx_engine.proofs.Turns.{goes_at}

module _ (bounds : List Key) (key : List ℕ) where
  -- nothing changes where no region is asked
  stays : (network : NetworkParts) (bits : List Bool) (said : ScriptReply)
      → ((later : List Bool) (engine : EngineState) → inspects (bits ++ later) engine key ≡ goes engine said later)
      → Inspected bounds key said network network
  stays network bits said is = record {
    counts = omega arith;
    grows = omega arith;
    traced = λ le t. t;
    exact = λ le ticks names slots. goes_at bounds
        (λ refused. inspects refused (engine_with (network_state network) ticks names slots) key) bits said said _ _
        (λ later. is later (engine_with (network_state network) ticks names slots)) refl refl;
  }

  pub inspect_unkeyed : is_key key ≡ false → (network : NetworkParts)
      → Inspected bounds key reply.KeyLength network network
  inspect_unkeyed bad network = stays network [] reply.KeyLength (λ later engine. rw bad refl)

  module _ (good : is_key key ≡ true) where
    shows_at : (later : List Bool) (engine : EngineState)
        → inspects (false ∷ later) engine key ≡ shows engine.network key
        (λ copy. goes engine (reply.Versions copy) later)
    shows_at later engine = rw good refl

    refused_at : (later : List Bool) (engine : EngineState)
        → inspects (true ∷ later) engine key ≡ goes engine reply.OutOfMemory later
    refused_at later engine = rw good refl

    pub inspect_short : (network : NetworkParts) → Inspected bounds key reply.OutOfMemory network network
    inspect_short network = stays network (true ∷ []) reply.OutOfMemory refused_at

    module _ (from to : NetworkParts) (copied : Result KeyVersions Fault)
        (shown : Displays (route bounds key) from to key copied) where
      newest_stays : length to.newest ≤ length from.newest → to.newest ≡ from.newest
      newest_stays le = sym (begins_whole from.newest to.newest shown.begins (omega (arith, le)))

      network_stays : length to.newest ≤ length from.newest → network_state to ≡ network_state from
      network_stays le = same_network from to from.newest (newest_stays le) shown.held

      -- the turn goes on so from any engine state of this stage
      said_so : (said : ScriptReply) → (length to.newest ≤ length from.newest
          → (ticks : ℕ) (names : List ℕ → Option ℕ) (slots : List SlotState)
          → GoesTo bounds (λ refused. inspects refused (engine_with (network_state from) ticks names slots) key) said
          (engine_with (network_state from) ticks names slots))
          → Inspected bounds key said from to
      said_so said on = record {
        counts = shown.counts;
        grows = begins_length from.newest to.newest shown.begins;
        traced = λ le. traced_same from to (newest_stays le) shown.trace;
        exact = λ le ticks names slots. subst (λ s.
            GoesTo bounds (λ refused. inspects refused (engine_with (network_state from) ticks names slots) key) said
            (engine_with s ticks names slots)) (sym (network_stays le)) (on le ticks names slots);
      }

      -- memory for it was refused
      pub inspect_refused : Inspected bounds key reply.OutOfMemory from to
      inspect_refused = said_so reply.OutOfMemory (λ le ticks names slots.
          goes_at bounds (λ refused. inspects refused (engine_with (network_state from) ticks names slots) key) (true
          ∷ []) reply.OutOfMemory reply.OutOfMemory _ _
          (λ later. refused_at later (engine_with (network_state from) ticks names slots)) refl refl)

      pub inspect_shown : (copy : KeyVersions) → copied ≡ Ok copy → Inspected bounds key (reply.Versions copy) from to
      inspect_shown copy is = said_so (reply.Versions copy) (λ le ticks names slots. (
        false ∷ [],
        λ later. subst (Leads bounds _ _) (sym (shows_at later (engine_with (network_state from) ticks names slots))) (
          copy,
          subst (λ h. Copies ((left h (route bounds key)).cells key) copy) (newest_stays le)
              (subst (λ r. IfOk r (λ copy. Copies ((left to.newest (route bounds key)).cells key) copy)) is
              shown.copies),
          (refl, refl, refl),
        ),
      ))

  -- ---- the step

  -- what an engine's step gives, where nothing else of the engine changes
  pub step_inspected : (old new : Held) → new.system_seat ≡ old.system_seat → new.names ≡ old.names
      → new.slots ≡ old.slots → (said : ScriptReply) → Inspected bounds key said old.network new.network
      → Goes bounds old new (Turned bounds (step.Versions key) (Ok said) old new)
  step_inspected old new system_seat names slots said seen = record {
    made = 0;
    counts = omega (arith, seen.counts, ap made_by system_seat, ap (sum_by (λ p. made_in (seat_in p))) slots);
    size = ap length slots;
    seated = seats_stay bounds key old new system_seat slots;
    grows = omega (arith, seen.grows);
    traced = λ le. seen.traced (omega (arith, le));
    exact = λ le. subst (GoesTo bounds (λ refused. turn bounds refused (step.Versions key) (engine_state old)) said)
        (λ i. engine_with (network_state new.network) (known_ticks (sym system_seat i)) (λ q. name_at (sym names i) q)
        (map slot_of (sym slots i)))
        (seen.exact (omega (arith, le)) old.system_seat.ticks (λ q. name_at old.names q) (map slot_of old.slots));
  }
