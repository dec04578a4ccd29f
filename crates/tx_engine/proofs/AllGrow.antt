-- Histories only grow as steps are played.
use Rattle.std.proofs.Common.{ℕ, ◌+◌, Bool, true, false, not, cond, inl, inr, List, [], Option, Some, None, Ok, Err, is_some, nat_eq, nat_le, sym, subst}
use Rattle.tx_types.specs.declared.fault.Cause.{Cause}
use Rattle.tx_types.specs.declared.fault.Cause.TheVariants as cause
use Rattle.tx_types.specs.declared.key.Key.{Key}
use Rattle.tx_types.specs.declared.lock.LockInfo.{LockInfo}
use Rattle.tx_plan.specs.declared.body.Body.{Body}
use Rattle.tx_plan.specs.declared.body.Body.TheVariants as request
use Rattle.tx_plan.specs.declared.answer.Answer.{Answer}
use Rattle.tx_cells.specs.declared.copies.KeyVersions.{KeyVersions}
use Rattle.tx_core.specs.declared.event.Declaration.{Declaration}
use Rattle.tx_core.specs.declared.event.Outcome.{Outcome}
use Rattle.tx_core.specs.Histories.{History, last, Begins}
use Rattle.tx_core.proofs.seats.Beginnings.{begins_all, begins_more}
use Rattle.tx_transaction.specs.Returns.{Response}
use Rattle.tx_transaction.specs.declared.state.Miss.TheVariants as miss
use Rattle.tx_transaction.specs.Sessions.{SessionState, is_declared, exceeds, declaration, can_draw, finish_of, notes_one}
use Rattle.tx_transaction.specs.declared.state.Terms.{Terms}
use Rattle.tx_client.specs.Walks.{Walk, asks, grows, ends}
use Rattle.tx_client.specs.Statuses.{lies_above}
use Rattle.tx_resolve.specs.BlockedReads.{read_walk}
use Rattle.tx_resolve.specs.Collection.{gc_walk}
use Rattle.tx_steps.specs.declared.delivery.Delivery.TheVariants as deliveries
use Rattle.tx_reply.specs.declared.reply.ScriptReply.{ScriptReply}
use Rattle.tx_reply.specs.declared.reply.ScriptReply.TheVariants as reply
use Rattle.tx_types.specs.Names.{is_name}
use Rattle.tx_steps.specs.declared.delivery.Delivery.{Delivery}
use Rattle.tx_steps.specs.Steps.{Text}
use Rattle.tx_network.specs.Networks.{taken, holding, takes_memory, may_go}
use Rattle.tx_steps.specs.declared.call.Call.{Call}
use Rattle.tx_steps.specs.declared.op.Op.{Op}
use Rattle.tx_steps.specs.declared.op.Op.TheVariants as op
use Rattle.tx_steps.specs.declared.step.Step.{Step}
use Rattle.tx_steps.specs.declared.step.Step.TheVariants as step
use Rattle.tx_types.specs.Lengths.{is_key}
use Rattle.tx_ops.specs.Edits.{Edit, is_refused, later_of, puts, inserts, deletes, locks}
use Rattle.tx_ops.specs.Edits as edit
use Rattle.tx_ops.specs.Calls.{Said, read_reply, call_walk}
use Rattle.tx_ops.proofs.CallEnds.{AllEnds, Any, all_end, Tells, call_tells}
use Rattle.tx_engine.specs.Semantics.{EngineState, Transition, goes, inquires, shows, stops, calls, at_network, began, declared_in, placed_in, placed, seat_at, answers, asked, sent, runs, came, first_free, live_at, is_too_many, edited, edits, sends, delivers, finishes_by, begins_at, in_session, turn, learns, resolves_by, collected_as, sends_by}
use Rattle.tx_engine.specs.Plays.{Leads}

-- Whatever a turn leads to, and wherever it asks a region, h has happened there; it stops at most
-- where `from` has happened.
abbrev pub AllGrow : History → History → Transition → Type 0
AllGrow from h (goes engine said refused) = Begins h engine.network.history
AllGrow from h (inquires network body more) = Begins h network.history
    × ((a : Answer) → AllGrow from network.history (more a))
AllGrow from h (shows network key more) = Begins h network.history
    × ((copy : KeyVersions) → AllGrow from network.history (more copy))
AllGrow from h (stops cause) = Begins h from

grows_more : (from l h : History) (t : Transition) → Begins l h → AllGrow from h t → AllGrow from l t
grows_more from l h (goes engine said refused) b grow = begins_more l h engine.network.history b grow
grows_more from l h (inquires network body more) b grow = (begins_more l h network.history b grow.0, grow.1)
grows_more from l h (shows network key more) b grow = (begins_more l h network.history b grow.0, grow.1)
grows_more from l h (stops cause) b grow = begins_more l h from b grow

either : (from h : History) (b : Bool) (t u : Transition) → AllGrow from h t → AllGrow from h u
    → AllGrow from h (cond b t u)
either from h true t u x y = x
either from h false t u x y = y

-- what goes on from any engine state that comes later
abbrev Later : (from : History) → (EngineState → List Bool → Transition) → Type 0
Later from on = (next : EngineState) (left : List Bool) → AllGrow from next.network.history (on next left)

module _ (bounds : List Key) (from : History) where
  answers_grow : (engine : EngineState) (body : Body) (on : Response → EngineState → List Bool → Transition)
      → ((c : Response) → Later from (on c)) → (left : List Bool)
      → AllGrow from engine.network.history (answers bounds engine body on left)
  answers_grow engine body on grow left = (
    begins_all engine.network.history,
    λ a. grows_more from engine.network.history
        (taken bounds engine.network body a).history
        (on (Ok a) (at_network engine (taken bounds engine.network body a)) left)
        (inr (begins_all engine.network.history))
        (grow (Ok a) (at_network engine (taken bounds engine.network body a)) left),
  )

  asked_grows : (refused : List Bool) (engine : EngineState) (body : Body) (on : Response → EngineState → List Bool
      → Transition) → ((c : Response) → Later from (on c))
      → AllGrow from engine.network.history (asked bounds refused engine body on)
  asked_grows refused engine body on grow =
      either from engine.network.history (takes_memory body) _ _
      (either from engine.network.history (is_refused refused) _ _
      (grow (Err miss.Fault) engine (later_of refused)) (answers_grow engine body on grow (later_of refused)))
      (answers_grow engine body on grow refused)

  sent_grows : (delivery : Delivery Text) (refused : List Bool) (engine : EngineState) (body : Body) (on : Response
      → EngineState → List Bool → Transition) → ((c : Response) → Later from (on c))
      → AllGrow from engine.network.history (sent bounds delivery refused engine body on)
  sent_grows deliveries.Taken refused engine body on grow = asked_grows refused engine body on grow
  sent_grows deliveries.Lost refused engine body on grow = grow (Err miss.Lost) engine refused
  sent_grows deliveries.Unanswered refused engine body on grow =
      asked_grows refused engine body (λ c. on (Err miss.Lost)) (λ c. grow (Err miss.Lost))
  sent_grows deliveries.Repeated refused engine body on grow =
      either from engine.network.history (is_refused refused) _ _ (grow (Err miss.Fault) engine (later_of refused))
      (asked_grows (later_of refused) engine body (λ c next left. asked bounds left next body on)
      (λ c next left. asked_grows left next body on grow))
  sent_grows (deliveries.Held name) refused engine body on grow =
      either from engine.network.history (is_refused refused) _ _ (grow (Err miss.Fault) engine (later_of refused))
      (grow (Err miss.Lost) (at_network engine (holding engine.network name body)) (later_of refused))

  -- by what each of its ends is
  ends_grow : {R : Type 0} (P : R → Type 0) (delivery : Delivery Text) (refused : List Bool) (engine : EngineState)
      (w : Walk R) (on : R → EngineState → List Bool → Transition) → AllEnds Any P w
      → ((r : R) → P r → Later from (on r))
      → AllGrow from engine.network.history (runs bounds delivery refused engine w on)
  ends_grow P delivery refused engine (ends r) on all grow = grow r all engine refused
  ends_grow P delivery refused engine (grows more short) on all grow =
      either from engine.network.history (is_refused refused) _ _
      (ends_grow P delivery (later_of refused) engine short on all.1 grow)
      (ends_grow P delivery (later_of refused) engine more on all.0 grow)
  ends_grow P delivery refused engine (asks body more) on all grow =
      sent_grows delivery refused engine body (λ c next left. runs bounds delivery left next (more c) on)
      (λ c next left. ends_grow P delivery left next (more c) on (all c tt) grow)

  runs_grow : {R : Type 0} (delivery : Delivery Text) (refused : List Bool) (engine : EngineState) (w : Walk R) (on : R
      → EngineState → List Bool → Transition) → ((r : R) → Later from (on r))
      → AllGrow from engine.network.history (runs bounds delivery refused engine w on)
  runs_grow delivery refused engine w on grow =
      ends_grow (λ r. Unit {0}) delivery refused engine w on (all_end Any w) (λ r is. grow r)

-- ---- steps

module _ (bounds : List Key) where
  module _ (engine : EngineState) where
    abbrev h : History
    h = engine.network.history

    stays : (said : ScriptReply) (left : List Bool) → AllGrow h h (goes engine said left)
    stays said left = begins_all h

    calls_grow : (refused : List Bool) (more : List Bool → Transition) → ((left : List Bool) → AllGrow h h (more left))
        → AllGrow h h (calls refused engine more)
    calls_grow refused more grow = either h h (is_refused refused) _ _ (begins_all h) (grow (later_of refused))

    edited_grows : (k : ℕ) (s : SessionState) (e : Edit) → AllGrow h h (edited engine k s e)
    edited_grows k s (edit.stops cause) = begins_all h
    edited_grows k s (edit.says said left) = begins_all h
    edited_grows k s (edit.enters buffer left) = begins_all h

    declared_grows : (seat : ℕ) (o : Option Declaration) → Begins h (declared_in seat h o)
    declared_grows seat None = begins_all h
    declared_grows seat (Some d) = inr (inr (begins_all h))

    edit_grows : (refused : List Bool) (k : ℕ) (s : SessionState) (what : Op Text)
        → AllGrow h h (edits refused engine k s bounds what)
    edit_grows refused k s (op.Put key value) = edited_grows k s (puts refused s key value)
    edit_grows refused k s (op.Insert key value) = edited_grows k s (inserts refused s key value)
    edit_grows refused k s (op.Delete key) = edited_grows k s (deletes refused s key)
    edit_grows refused k s (op.Lock key) = edited_grows k s (locks refused s key)
    edit_grows refused k s (op.Declare mode ttl max_commit) =
        (let terms : Terms = record { mode = mode; ttl = ttl; max_commit = max_commit } in
        either h h (is_declared s) _ _ (begins_all h)
        (either h h (exceeds s.buffer terms) (goes engine reply.TooManyKeys refused)
        (goes (placed refused engine k s bounds terms) reply.Fine refused) (begins_all h)
        (declared_grows (seat_at bounds k) (declaration s.start (placed_in h s.buffer) s.buffer terms))))
    edit_grows refused k s op.Draw = either h h (can_draw s) _ _ (inr (begins_all h)) (begins_all h)
    edit_grows refused k s op.Finish = begins_all h
    edit_grows refused k s op.Stop = begins_all h
    edit_grows refused k s (op.Resolve now) = begins_all h

    -- what a call came to, where its line is told something
    came_grows : (k : ℕ) (t : SessionState) (said : Said) → Tells (t, said) → Later h (came k t said)
    came_grows k t (Ok said) told next left = begins_all next.network.history
    came_grows k t (Err c) told next left = absurd told

    send_by_grows : (refused : List Bool) (k : ℕ) (s : SessionState) (what : Call Text) (delivery : Delivery Text)
        → AllGrow h h (sends_by refused engine k s bounds what delivery)
    send_by_grows refused k s what delivery = elim (call_tells bounds s what) [
      | inl y ↦ subst (λ w. AllGrow h h (runs bounds delivery refused engine w (λ x next left.
          came k x.0 x.1 next left))) (sym y.1) (begins_all h)
      | inr all ↦ ends_grow bounds h Tells delivery refused engine (call_walk bounds s what)
          (λ x next left. came k x.0 x.1 next left) all (λ x. came_grows k x.0 x.1)
    ]

    send_grows : (refused : List Bool) (k : ℕ) (s : SessionState) (what : Call Text) (delivery : Delivery Text)
        → AllGrow h h (sends refused engine k s bounds what delivery)
    send_grows refused k s what delivery =
        either h h (not (may_go engine.network delivery)) (stops cause.Name)
        (cond (is_too_many engine.network s what delivery) (stops cause.Sessions)
        (sends_by refused engine k s bounds what delivery)) (begins_all h)
        (either h h (is_too_many engine.network s what delivery) (stops cause.Sessions)
        (sends_by refused engine k s bounds what delivery) (begins_all h) (send_by_grows refused k s what delivery))

    deliver_grows : (refused : List Bool) (o : Option Body) → AllGrow h h (delivers bounds refused engine o)
    deliver_grows refused None = begins_all h
    deliver_grows refused (Some body) =
        calls_grow refused (λ left. asked bounds left engine body (λ c next rest. goes next (read_reply c) rest))
        (λ left. asked_grows bounds h left engine body (λ c next rest. goes next (read_reply c) rest)
        (λ c next rest. begins_all next.network.history))

    session_grows : (o : Option (ℕ × SessionState)) (more : ℕ → SessionState → Transition)
        → ((k : ℕ) (s : SessionState) → AllGrow h h (more k s)) → AllGrow h h (in_session o more)
    session_grows None more grow = begins_all h
    session_grows (Some x) more grow = grow x.0 x.1

    begin_grows : (refused : List Bool) (name : List ℕ) (o : Option ℕ)
        → AllGrow h h (begins_at bounds refused engine name o)
    begin_grows refused name None = begins_all h
    begin_grows refused name (Some k) = calls_grow refused
        (λ left. goes (began bounds engine name k) (reply.Start (last engine.network.history
        + 1)) left) (λ left. inr (inr (begins_all h)))

    finish_grows : (refused : List Bool) (k : ℕ) (s : SessionState) (name : List ℕ) (o : Option Outcome)
        → AllGrow h h (finishes_by refused engine k s name o)
    finish_grows refused k s name None = begins_all h
    finish_grows refused k s name (Some o) = inr (begins_all h)

    resolve_grows : (refused : List Bool) (k : ℕ) (s : SessionState) (now : ℕ) (o : Option LockInfo)
        → AllGrow h h (resolves_by bounds refused engine k s now o)
    resolve_grows refused k s now None = begins_all h
    resolve_grows refused k s now (Some met) =
        runs_grow bounds h deliveries.Taken refused engine (read_walk met s.start now) (λ found next left.
        learns next k s met found left)
        (λ found next left. either h next.network.history (notes_one s met.start (lies_above found s.start)) _ _
        (either h next.network.history (is_refused left) _ _ (begins_all next.network.history)
        (begins_all next.network.history)) (begins_all next.network.history))

    act_grows : (refused : List Bool) (name : Text) (what : Op Text)
        → AllGrow h h (turn bounds refused (step.Act name what) engine)
    act_grows refused name op.Finish = session_grows (live_at engine name) _
        (λ k s. finish_grows refused k s name (finish_of s))
    act_grows refused name op.Stop = session_grows (live_at engine name) _ (λ k s. inr (begins_all h))
    act_grows refused name (op.Resolve now) = session_grows (live_at engine name) _
        (λ k s. resolve_grows refused k s now s.met)
    act_grows refused name (op.Put key value) = session_grows (live_at engine name) _
        (λ k s. edit_grows refused k s (op.Put key value))
    act_grows refused name (op.Insert key value) =
        session_grows (live_at engine name) _ (λ k s. edit_grows refused k s (op.Insert key value))
    act_grows refused name (op.Delete key) = session_grows (live_at engine name) _
        (λ k s. edit_grows refused k s (op.Delete key))
    act_grows refused name (op.Lock key) = session_grows (live_at engine name) _
        (λ k s. edit_grows refused k s (op.Lock key))
    act_grows refused name (op.Declare mode ttl max_commit) =
        session_grows (live_at engine name) _ (λ k s. edit_grows refused k s (op.Declare mode ttl max_commit))
    act_grows refused name op.Draw = session_grows (live_at engine name) _ (λ k s. edit_grows refused k s op.Draw)

    pub turn_grows : (refused : List Bool) (what : Step Text)
        → AllGrow engine.network.history engine.network.history (turn bounds refused what engine)
    turn_grows refused (step.Begin name) = either h h (not (is_name name)) _ _ (begins_all h)
        (either h h (is_some (engine.names name)) _ _ (begins_all h)
        (begin_grows refused name (first_free engine.slots)))
    turn_grows refused (step.Act name what) = act_grows refused name what
    turn_grows refused (step.Send name what delivery) =
        session_grows (live_at engine name) _ (λ k s. send_grows refused k s what delivery)
    turn_grows refused (step.Deliver name) = deliver_grows refused (engine.network.held name)
    turn_grows refused (step.Read key at) =
        either h h (not (is_key key)) _ _ (begins_all h)
        (calls_grow refused (λ left. asked bounds left engine (request.Get (record {
          key = key;
          at = at;
          bypass = [];
        })) (λ c next rest. goes next (read_reply c) rest))
        (λ left. asked_grows bounds h left engine (request.Get (record {
          key = key;
          at = at;
          bypass = [];
        })) (λ c next rest. goes next (read_reply c) rest)
        (λ c next rest. begins_all next.network.history)))
    turn_grows refused (step.Versions key) =
        either h h (not (is_key key)) _ _ (begins_all h)
        (calls_grow refused (λ left. shows engine.network key (λ copy. goes engine (reply.Versions copy) left))
        (λ left. (begins_all h, λ copy. begins_all h)))
    turn_grows refused (step.Tick n) = either h h (nat_eq n 0) _ _ (begins_all h)
        (either h h (nat_le n engine.ticks) _ _ (inr (begins_all h)) (begins_all h))
    turn_grows refused (step.Gc safe) = runs_grow bounds h deliveries.Taken refused engine (gc_walk bounds safe)
        (λ r next left. goes next (collected_as r) left) (λ r next left. begins_all next.network.history)
    turn_grows refused (step.Seed key value) = begins_all h
    turn_grows refused (step.Transfer name what) = begins_all h

  -- where each engine state that a turn goes on to begins a history, h does
  pub leads_begin : (Goes : EngineState → ScriptReply → List Bool → Type 0) (Stops : Cause
      → Type 0) (from h end : History) → ((next : EngineState) (said : ScriptReply) (left : List Bool)
      → Goes next said left → Begins next.network.history end) → ((c : Cause) → Stops c → Begins from end)
      → (t : Transition) → AllGrow from h t → Leads bounds Goes Stops t → Begins h end
  leads_begin Goes Stops from h end go halt (goes engine said refused) grow leads =
      begins_more h engine.network.history end grow (go engine said refused leads)
  leads_begin Goes Stops from h end go halt (inquires network body more) grow (a, answers, leads) =
      begins_more h network.history end grow.0 (leads_begin Goes Stops from network.history end go halt (more a)
      (grow.1 a) leads)
  leads_begin Goes Stops from h end go halt (shows network key more) grow (copy, is, leads) =
      begins_more h network.history end grow.0 (leads_begin Goes Stops from network.history end go halt (more copy)
      (grow.1 copy) leads)
  leads_begin Goes Stops from h end go halt (stops c) grow leads = begins_more h from end grow (halt c leads)
