-- What a session does by itself is its turn, where nobody else acted.
use Rattle.std.proofs.Common.{◌≡◌, ◌<◌, ◌+◌, ℕ, zero, suc, Bool, true, false, cond, inl, inr, List, [], ◌∷◌, ◌++◌, slice_get, slice_set, Option, Some, Ok, Err, refl, sym, ap, subst, ◌∙◌, arith}
use Rattle.tx_types.specs.declared.fault.Cause.TheVariants as cause
use Rattle.tx_types.specs.declared.key.Key.{Key}
use Rattle.tx_core.specs.declared.event.Event.TheVariants.{Drawn}
use Rattle.tx_core.specs.Histories.{last}
use Rattle.tx_transaction.specs.declared.state.Terms.{Terms}
use Rattle.tx_transaction.specs.Buffers.{Entries, not_empty}
use Rattle.tx_transaction.specs.Sessions.{SessionState, can_draw, declaration, declaration_of, exceeds, is_declared}
use Rattle.tx_client.specs.Calls.{RecordsDeclared, Seated}
use Rattle.tx_journal.specs.Known.{Known}
use Rattle.tx_steps.specs.declared.op.Op.{Op}
use Rattle.tx_steps.specs.declared.op.Op.TheVariants as op
use Rattle.tx_steps.specs.declared.step.Step.TheVariants as step
use Rattle.tx_steps.specs.Steps.{Text}
use Rattle.tx_reply.specs.declared.reply.ScriptReply.{ScriptReply}
use Rattle.tx_reply.specs.declared.reply.ScriptReply.TheVariants as reply
use Rattle.tx_ops.specs.Acts.{Declares, Does, DrawsIf}
use Rattle.tx_ops.specs.Calls.{Said}
use Rattle.tx_ops.specs.Edits.{Edit, Edited, deletes, inserts, locks, puts}
use Rattle.tx_network.specs.Networks.{with_events}
use Rattle.tx_engine.specs.Semantics.{EngineState, Transition, at_slot, declared_in, declares, draws, drew, edited, edits, goes, in_session, live_at, lives, placed, placed_in, seat_at, session, stops, turn, with_session}
use Rattle.tx_core.proofs.Basics.{some_same}
use Rattle.tx_alone.specs.Ways.{IsAlone}
use Rattle.tx_alone.specs.Turns.{Table, IsLive, IsStepOf, IsTurn, TurnsBy, with_live}
use Rattle.tx_alone.proofs.OwnEvents.{declared_here, drew_here}
use Rattle.tx_alone.proofs.WalkTurns.{goes_at, turns_as}

-- what is put where it is changes nothing
set_here : {X : Type 0} (xs : List X) (k : ℕ) (x : X) → slice_get xs k ≡ Some x → slice_set xs k x ≡ xs
set_here [] k x is = refl
set_here (y ∷ ys) zero x is = ap (λ z. z ∷ ys) (sym (some_same y x is))
set_here (y ∷ ys) (suc k) x is = ap (λ zs. y ∷ zs) (set_here ys k x is)

module _ (bounds : List Key) (e : EngineState) (name : Text) (k : ℕ) (old : Seated)
    (live : IsLive bounds e name k old) where
  -- it is live there
  pub is_live : live_at e name ≡ Some (k, old.state)
  is_live = ap (at_slot e.slots) live.named ∙ ap (lives k) live.there

  -- where it is as it was, all is
  pub rests : e ≡ with_live e k old
  rests = λ i. record e {
    network = with_events e.network (live.knows i);
    slots = sym (set_here e.slots k (session old.state) live.there) i;
  }

module _ (May : Table) (bounds : List Key) (e : EngineState) (name : Text) (k : ℕ) (old new : Seated)
    (live : IsLive bounds e name k old) where
  abbrev Next : EngineState
  Next = with_live e k new

  -- nothing changes
  stays : (turn : List Bool → Transition) (bits : List Bool) (told : ScriptReply) → new ≡ old
      → ((later : List Bool) → turn (bits ++ later) ≡ goes e told later) → TurnsBy May bounds turn (Ok told) Next
  stays turn bits told same is =
      goes_at May bounds turn bits told told e Next is
      (rests bounds e name k old live ∙ ap (with_live e k) (sym same)) refl

  -- what is said is this
  said_so : (turn : List Bool → Transition) (said told : Said) → said ≡ told → TurnsBy May bounds turn told Next
      → TurnsBy May bounds turn said Next
  said_so turn said told is turns = subst (λ (s : Said). TurnsBy May bounds turn s Next) (sym is) turns

  -- ---- edits

  edit_turn : (edit : List Bool → SessionState → Edit) (said : Said) → Edited edit said old new
      → TurnsBy May bounds (λ refused. edited e k old.state (edit refused old.state)) said Next
  edit_turn edit (Err why) (same, is) = λ refused. ap (edited e k old.state) (is refused)
  edit_turn edit (Ok told) (refused, inl (same, is)) =
      stays (λ bits. edited e k old.state (edit bits old.state)) refused told same
      (λ later. ap (edited e k old.state) (is later))
  edit_turn edit (Ok told) (refused, inr (fine, now, is)) =
      let events : e.network.history ≡ new.seat.events = live.knows ∙ ap (λ (s : Seated). s.seat.events) (sym now) in
      goes_at May bounds (λ bits. edited e k old.state (edit bits old.state)) refused reply.Fine told
      (with_session e k (record old.state { buffer = new.state.buffer })) Next
      (λ later. ap (edited e k old.state) (is later))
      (λ i. record e {
        network = with_events e.network (events i);
        slots = slice_set e.slots k (session (sym now i).state);
      }) (sym fine)

  -- ---- declare

  module _ (ticks : 0 < old.seat.ticks) (alone : IsAlone old.seat 0 new.seat) where
    -- what was declared, at the number that was drawn for it
    placed_here : (es : Entries) (terms : Terms) (p : ℕ)
        → RecordsDeclared bounds old.seat (declaration old.state.start p es terms) new.seat
        → (not_empty es ≡ false → p ≡ 0)
        → (p ≡ placed_in old.seat.events es)
        × (new.seat.events ≡ declared_in old.seat.seat old.seat.events (declaration old.state.start p es terms))
    placed_here [] terms p same none = (none refl, ap (λ (x : Known). x.events) same)
    placed_here (x ∷ es) terms p records none =
        declared_here bounds old.seat new.seat alone (declaration_of old.state.start p (x ∷ es) terms) records

    module _ (terms : Terms) where
      abbrev declaring : List Bool → Transition
      declaring = λ refused. declares refused e k old.state bounds terms

      abbrev inner : Bool → List Bool → Transition
      inner many refused = cond many (goes e reply.TooManyKeys refused)
          (goes (placed refused e k old.state bounds terms) reply.Fine refused)

      declares_is : (many : Bool) → is_declared old.state ≡ false → exceeds old.state.buffer terms ≡ many
          → (refused : List Bool) → declaring refused ≡ inner many refused
      declares_is many free is refused = λ i. cond (free i) (stops cause.Order) (inner (is i) refused)

      declare_turn : (late : Bool) → is_declared old.state ≡ late → (said : Said)
          → Declares bounds late old terms said new → TurnsBy May bounds declaring said Next
      declare_turn true late said (is, same) =
          said_so declaring said (Err cause.Order) is
          (λ refused. ap (λ b. cond b (stops cause.Order) (inner (exceeds old.state.buffer terms) refused)) late)
      declare_turn false late said (inl (is, few, state, records, none)) =
          let here = placed_here old.state.buffer terms new.state.placed records none in
          let number : new.state.placed ≡ placed_in e.network.history old.state.buffer =
          here.0 ∙ ap (λ h. placed_in h old.state.buffer) (sym live.knows) in
          let after : new.state ≡ record old.state {
            declared = Some terms;
            placed = placed_in e.network.history old.state.buffer;
          } = state ∙ ap (λ p. record old.state { declared = Some terms; placed = p }) number in
          let events : new.seat.events ≡ declared_in (seat_at bounds k) e.network.history
          (declaration old.state.start (placed_in e.network.history old.state.buffer) old.state.buffer terms) =
          here.1 ∙ (λ i. declared_in (live.seat i) (sym live.knows i)
          (declaration old.state.start (number i) old.state.buffer terms)) in
          said_so declaring said (Ok reply.Fine) is
          (goes_at May bounds declaring [] reply.Fine reply.Fine (placed [] e k old.state bounds terms) Next
          (λ later. declares_is false late few later)
          (λ i. record e {
            network = with_events e.network (sym events i);
            slots = slice_set e.slots k (session (sym after i));
          }) refl)
      declare_turn false late said (inr (inl (is, many, same))) =
          said_so declaring said (Ok reply.TooManyKeys) is
          (stays declaring [] reply.TooManyKeys same (λ later. declares_is true late many later))
      declare_turn false late said (inr (inr (is, few, some, spent, same))) = absurd (omega (arith, ticks, spent))

    -- ---- draw

    abbrev drawing : List Bool → Transition
    drawing = λ refused. draws refused e k old.state bounds

    abbrev drawn_by : Bool → List Bool → Transition
    drawn_by can refused = cond can (goes (drew bounds e k old.state) (reply.Drawn (last e.network.history
        + 1)) refused) (stops cause.Order)

    draw_turn : (can : Bool) → can_draw old.state ≡ can → (said : Said) → DrawsIf bounds can old said new
        → TurnsBy May bounds drawing said Next
    draw_turn false can said (is, same) =
        said_so drawing said (Err cause.Order) is (λ refused. ap (λ b. drawn_by b refused) can)
    draw_turn true can said (inl (c, is, state, draws)) =
        let here = drew_here bounds old.seat new.seat alone c draws in
        let number : c ≡ last e.network.history + 1 = here.0 ∙ ap (λ h. last h + 1) (sym live.knows) in
        let events : new.seat.events ≡ Drawn (seat_at bounds k) (last e.network.history + 1) ∷ e.network.history =
        here.1 ∙ (λ i. Drawn (live.seat i) (number i) ∷ sym live.knows i) in
        let after : new.state ≡ record old.state { drawn = Some (last e.network.history + 1) } =
        state ∙ ap (λ u. record old.state { drawn = Some u }) number in
        said_so drawing said (Ok (reply.Drawn c)) is
        (goes_at May bounds drawing [] (reply.Drawn (last e.network.history + 1)) (reply.Drawn c)
        (drew bounds e k old.state) Next (λ later. ap (λ b. drawn_by b later) can)
        (λ i. record e {
          network = with_events e.network (sym events i);
          slots = slice_set e.slots k (session (sym after i));
        }) (ap reply.Drawn (sym number)))
    draw_turn true can said (inr (is, spent, same)) = absurd (omega (arith, ticks, spent))

    -- ---- all of them

    by_turn : (what : Op Text) (inner : List Bool → Transition) (said : Said)
        → ((refused : List Bool) → turn bounds refused (step.Act name what) e ≡ inner refused)
        → TurnsBy May bounds inner said Next → IsTurn May bounds (step.Act name what) e said Next
    by_turn what inner said is turns =
        turns_as May bounds (λ refused. turn bounds refused (step.Act name what) e) inner said Next is turns

    -- the session there makes it
    at_live : (what : Op Text) (refused : List Bool)
        → in_session (live_at e name) (λ j s. edits refused e j s bounds what)
        ≡ edits refused e k old.state bounds what
    at_live what refused = ap (λ (o : Option (ℕ × SessionState)). in_session o
        (λ j s. edits refused e j s bounds what)) (is_live bounds e name k old live)

    pub act_turn : (what : Op Text) (said : Said) → IsStepOf name (step.Act name what)
        → Does bounds what old said new → IsTurn May bounds (step.Act name what) e said Next
    act_turn (op.Put key value) said may does =
        by_turn (op.Put key value) _ said (at_live (op.Put key value))
        (edit_turn (λ refused s. puts refused s key value) said does)
    act_turn (op.Insert key value) said may does =
        by_turn (op.Insert key value) _ said (at_live (op.Insert key value))
        (edit_turn (λ refused s. inserts refused s key value) said does)
    act_turn (op.Delete key) said may does =
        by_turn (op.Delete key) _ said (at_live (op.Delete key))
        (edit_turn (λ refused s. deletes refused s key) said does)
    act_turn (op.Lock key) said may does =
        by_turn (op.Lock key) _ said (at_live (op.Lock key)) (edit_turn (λ refused s. locks refused s key) said does)
    act_turn (op.Declare mode ttl most) said may does =
        by_turn (op.Declare mode ttl most) _ said (at_live (op.Declare mode ttl most))
        (declare_turn (record { mode = mode; ttl = ttl; max_commit = most }) (is_declared old.state) refl said does)
    act_turn op.Draw said may does =
        by_turn op.Draw _ said (at_live op.Draw) (draw_turn (can_draw old.state) refl said does)
    act_turn op.Finish said may does = absurd may
    act_turn op.Stop said may does = absurd may
    act_turn (op.Resolve now) said may does = absurd may
