-- What begins and ends a session is its turn, where nobody else acted.
use Rattle.std.proofs.Common.{◌≡◌, ◌+◌, ℕ, Bool, true, false, not, cond, List, [], ◌∷◌, slice_set, Option, Some, None, is_some, Ok, Err, refl, sym, ap, subst, ◌∙◌}
use Rattle.std.specs.Prelude.{bytes_eq}
use Rattle.std.specs.Map.{update}
use Rattle.tx_types.specs.Names.{is_name}
use Rattle.tx_types.specs.declared.fault.Cause.TheVariants as cause
use Rattle.tx_types.specs.declared.key.Key.{Key}
use Rattle.tx_core.specs.declared.event.Event.{Event}
use Rattle.tx_core.specs.declared.event.Event.TheVariants.{Answered, Began, Drawn, Stopped}
use Rattle.tx_core.specs.declared.event.Outcome.{Outcome}
use Rattle.tx_core.specs.Histories.{last}
use Rattle.tx_journal.specs.Known.{Known}
use Rattle.tx_transaction.specs.Sessions.{SessionState, begun, finish_of}
use Rattle.tx_client.specs.Calls.{Records, Seated}
use Rattle.tx_steps.specs.declared.op.Op.{Op}
use Rattle.tx_steps.specs.declared.op.Op.TheVariants as op
use Rattle.tx_steps.specs.declared.step.Step.{Step}
use Rattle.tx_steps.specs.declared.step.Step.TheVariants as step
use Rattle.tx_steps.specs.Steps.{Text}
use Rattle.tx_reply.specs.declared.reply.ScriptReply.TheVariants as reply
use Rattle.tx_network.specs.Networks.{with_events}
use Rattle.tx_engine.specs.Semantics.{EngineState, Transition, at_history, at_slot, began, begins_at, edits, finishes_by, first_free, goes, gone, in_session, leaves, resolves, seat_at, sends, session, stops, turn}
use Rattle.tx_transfer.specs.Steps.{Begun, Left}
use Rattle.tx_alone.specs.Ways.{IsAlone}
use Rattle.tx_alone.specs.Turns.{Table, IsFree, IsLive, IsNamed, IsTurn, with_begun, with_gone}
use Rattle.tx_alone.proofs.ActTurns.{is_live}
use Rattle.tx_alone.proofs.OwnEvents.{began_here, recorded_here}
use Rattle.tx_alone.proofs.WalkTurns.{goes_at}

module _ (May : Table) (bounds : List Key) (e : EngineState) (name : Text) where
  -- ---- it begins

  -- by whether it has a name, whether that is in use, and which slot is free
  abbrev beginning : Bool → Bool → Option ℕ → List Bool → Transition
  beginning is used slot refused = cond (not is) (stops cause.Name)
      (cond used (stops cause.Name) (begins_at bounds refused e name slot))

  pub begin_turn : (k : ℕ) (seat : Known) (s : Seated) → IsFree bounds e name k seat → is_name name ≡ true
      → Begun bounds seat s → IsAlone seat 0 s.seat
      → IsTurn May bounds (step.Begin name) e (Ok (reply.Start s.state.start)) (with_begun e name k s)
  begin_turn k seat s free named began_so alone =
      let here = began_here bounds seat s.seat alone s.state.start began_so.1 in
      let number : s.state.start ≡ last e.network.history + 1 = here.0 ∙ ap (λ h. last h + 1) (sym free.knows) in
      let events : s.seat.events ≡ Began (last e.network.history + 1)
      ∷ Drawn (seat_at bounds k) (last e.network.history + 1) ∷ e.network.history =
      here.1 ∙ (λ i. Began (number i) ∷ Drawn (free.seat_is i) (number i) ∷ sym free.knows i) in
      let state : s.state ≡ begun (last e.network.history + 1) = began_so.0 ∙ ap begun number in
      goes_at May bounds (λ refused. turn bounds refused (step.Begin name) e) (false ∷ [])
      (reply.Start (last e.network.history + 1)) (reply.Start s.state.start) (began bounds e name k)
      (with_begun e name k s)
      (λ later. λ i. beginning (named i) (is_some (free.unnamed i)) (free.first i) (false ∷ later))
      (λ i. record e {
        network = with_events e.network (sym events i);
        names = update bytes_eq e.names name (Some k);
        slots = slice_set e.slots k (session (sym state i));
      }) (ap reply.Start (sym number))

  -- ---- it is gone

  module _ (k : ℕ) (old : Seated) (seat : Known) (live : IsLive bounds e name k old) where
    -- what has happened then
    gone_at : (event : Event) → seat.events ≡ event ∷ old.seat.events
        → gone (at_history e (event ∷ e.network.history)) name k ≡ with_gone e name k seat
    gone_at event is = λ i. gone (at_history e ((ap (λ h. event ∷ h) live.knows ∙ sym is) i)) name k

    pub finish_turn : (o : Outcome) → finish_of old.state ≡ Some o
        → Records bounds old.seat (Answered old.state.start o) seat → IsAlone old.seat 0 seat
        → IsTurn May bounds (step.Act name op.Finish) e (Ok (reply.Ended o)) (with_gone e name k seat)
    finish_turn o is records alone =
        goes_at May bounds (λ refused. turn bounds refused (step.Act name op.Finish) e) [] (reply.Ended o)
        (reply.Ended o) (gone (at_history e (Answered old.state.start o ∷ e.network.history)) name k)
        (with_gone e name k seat)
        (λ later. ap (λ (x : Option (ℕ × SessionState)). in_session x
        (λ j s. finishes_by later e j s name (finish_of s))) (is_live bounds e name k old live) ∙ ap
        (finishes_by later e k old.state name) is)
        (gone_at (Answered old.state.start o)
        (recorded_here bounds old.seat seat alone (Answered old.state.start o) records)) refl

    pub stop_turn : Left bounds old seat → IsAlone old.seat 0 seat
        → IsTurn May bounds (step.Act name op.Stop) e (Ok reply.Fine) (with_gone e name k seat)
    stop_turn left alone =
        goes_at May bounds (λ refused. turn bounds refused (step.Act name op.Stop) e) [] reply.Fine reply.Fine
        (gone (at_history e (Stopped (seat_at bounds k) ∷ e.network.history)) name k) (with_gone e name k seat)
        (λ later. ap (λ (x : Option (ℕ × SessionState)). in_session x (λ j s. goes
        (gone (at_history e (Stopped (seat_at bounds j) ∷ e.network.history)) name j) reply.Fine later))
        (is_live bounds e name k old live))
        (gone_at (Stopped (seat_at bounds k))
        (recorded_here bounds old.seat seat alone (Stopped old.seat.seat) left
        ∙ ap (λ n. Stopped n ∷ old.seat.events) live.seat)) refl

  -- ---- it may not

  pub open_turn : (k : ℕ) (old : Seated) (next : EngineState) → IsLive bounds e name k old
      → finish_of old.state ≡ None → IsTurn May bounds (step.Act name op.Finish) e (Err cause.Order) next
  open_turn k old next live none = λ refused.
      ap (λ (x : Option (ℕ × SessionState)). in_session x (λ j s. finishes_by refused e j s name (finish_of s)))
      (is_live bounds e name k old live) ∙ ap (finishes_by refused e k old.state name) none

  -- its name is in use
  pub used_turn : (k : ℕ) (old : Seated) (next : EngineState) → IsLive bounds e name k old
      → IsTurn May bounds (step.Begin name) e (Err cause.Name) next
  used_turn k old next live = λ refused. used_by (is_name name) refused
    where
      used_by : (b : Bool) (refused : List Bool)
          → beginning b (is_some (e.names name)) (first_free e.slots) refused ≡ stops cause.Name
      used_by true refused = ap (λ (o : Option ℕ). beginning true (is_some o) (first_free e.slots) refused) live.named
      used_by false refused = refl

  -- no session has the name
  pub unopened_turn : (what : Step Text) (next : EngineState) → e.names name ≡ None → IsNamed name what
      → IsTurn May bounds what e (Err cause.Name) next
  unopened_turn (step.Begin n) next none (is, amiss) = λ refused.
      subst (λ (m : Text). turn bounds refused (step.Begin m) e ≡ stops cause.Name) (sym is)
      (ap (λ b. beginning b (is_some (e.names name)) (first_free e.slots) refused) amiss)
  unopened_turn (step.Act n what) next none is = λ refused.
      subst (λ (m : Text). turn bounds refused (step.Act m what) e ≡ stops cause.Name) (sym is)
      (act_stops what refused)
    where
      act_stops : (what : Op Text) (refused : List Bool) → turn bounds refused (step.Act name what) e ≡ stops cause.Name
      act_stops op.Finish refused = ap (λ (o : Option ℕ). in_session (at_slot e.slots o)
          (λ j s. finishes_by refused e j s name (finish_of s))) none
      act_stops op.Stop refused = ap (λ (o : Option ℕ). in_session (at_slot e.slots o)
          (λ j s. leaves refused e j s bounds name)) none
      act_stops (op.Resolve now) refused = ap (λ (o : Option ℕ). in_session (at_slot e.slots o)
          (λ j s. resolves bounds refused e j s now)) none
      act_stops (op.Put key value) refused = ap (λ (o : Option ℕ). in_session (at_slot e.slots o)
          (λ j s. edits refused e j s bounds (op.Put key value))) none
      act_stops (op.Insert key value) refused = ap (λ (o : Option ℕ). in_session (at_slot e.slots o)
          (λ j s. edits refused e j s bounds (op.Insert key value))) none
      act_stops (op.Delete key) refused = ap (λ (o : Option ℕ). in_session (at_slot e.slots o)
          (λ j s. edits refused e j s bounds (op.Delete key))) none
      act_stops (op.Lock key) refused = ap (λ (o : Option ℕ). in_session (at_slot e.slots o)
          (λ j s. edits refused e j s bounds (op.Lock key))) none
      act_stops (op.Declare mode ttl most) refused = ap (λ (o : Option ℕ). in_session (at_slot e.slots o)
          (λ j s. edits refused e j s bounds (op.Declare mode ttl most))) none
      act_stops op.Draw refused = ap (λ (o : Option ℕ). in_session (at_slot e.slots o)
          (λ j s. edits refused e j s bounds op.Draw)) none
  unopened_turn (step.Send n what d) next none is = λ refused.
      subst (λ (m : Text). turn bounds refused (step.Send m what d) e ≡ stops cause.Name) (sym is)
      (ap (λ (o : Option ℕ). in_session (at_slot e.slots o) (λ j s. sends refused e j s bounds what d)) none)
  unopened_turn (step.Deliver n) next none is = absurd is
  unopened_turn (step.Read key at) next none is = absurd is
  unopened_turn (step.Versions key) next none is = absurd is
  unopened_turn (step.Tick ticks) next none is = absurd is
  unopened_turn (step.Gc safe) next none is = absurd is
  unopened_turn (step.Seed key value) next none is = absurd is
  unopened_turn (step.Transfer n what) next none is = absurd is
