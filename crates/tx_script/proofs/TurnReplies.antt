-- What a step's turn replies, by what has then happened.
use Rattle.std.proofs.Common.{◌≡◌, inl, inr, ◌+◌, ◌&&◌, ℕ, Bool, true, false, not, cond, List, [], length, slice_get, slice_set, Option, Some, None, is_some, nat_eq, nat_le, Result, Ok, Err, refl, sym, subst}
use Rattle.tx_types.specs.declared.fault.Fault.{Fault}
use Rattle.tx_types.specs.declared.fault.Fault.TheVariants as fault
use Rattle.tx_types.specs.declared.key.Key.{Key}
use Rattle.tx_types.specs.declared.value.Value.{Value}
use Rattle.tx_types.specs.declared.lock.LockInfo.{LockInfo}
use Rattle.tx_types.specs.Lengths.{is_key}
use Rattle.tx_types.specs.Names.{is_name}
use Rattle.tx_plan.specs.declared.body.Body.{Body}
use Rattle.tx_plan.specs.declared.body.Body.TheVariants as request
use Rattle.tx_plan.specs.declared.answer.Answer.{Answer}
use Rattle.tx_core.specs.declared.event.Outcome.{Outcome}
use Rattle.tx_core.specs.Histories.{History, last}
use Rattle.tx_core.proofs.seats.Beginnings.{begins_all}
use Rattle.tx_transaction.specs.declared.state.Miss.{Miss}
use Rattle.tx_transaction.specs.declared.state.Miss.TheVariants as miss
use Rattle.tx_transaction.specs.declared.state.Phase.TheVariants as phase
use Rattle.tx_transaction.specs.Sessions.{SessionState, is_declared, has_primary, exceeds, due_prewrite, due_commit, due_abort, can_draw, can_commit, can_abort, finish_of, notes_one, with_passed}
use Rattle.tx_client.specs.declared.resolved.Status.{Status}
use Rattle.tx_client.specs.Statuses.{lies_above}
use Rattle.tx_client.specs.Facts.{RespondsSo}
use Rattle.tx_client.specs.Walks.{Walk, heartbeat_walk, get_walk, scan_walk}
use Rattle.tx_resolve.specs.declared.collector.Counts.{Counts}
use Rattle.tx_resolve.specs.BlockedReads.{read_walk}
use Rattle.tx_resolve.specs.Collection.{gc_walk}
use Rattle.tx_ops.specs.Edits.{Edit, is_refused, later_of, puts, inserts, deletes, locks}
use Rattle.tx_ops.specs.Edits as edit
use Rattle.tx_ops.specs.Calls.{Said, read_reply, call_walk}
use Rattle.tx_steps.specs.declared.delivery.Delivery.{Delivery}
use Rattle.tx_steps.specs.declared.delivery.Delivery.TheVariants as deliveries
use Rattle.tx_steps.specs.declared.call.Call.{Call}
use Rattle.tx_steps.specs.declared.op.Op.{Op}
use Rattle.tx_steps.specs.declared.op.Op.TheVariants as op
use Rattle.tx_steps.specs.declared.step.Step.{Step}
use Rattle.tx_steps.specs.declared.step.Step.TheVariants as step
use Rattle.tx_steps.specs.Steps.{Text}
use Rattle.tx_network.specs.Networks.{may_go}
use Rattle.tx_reply.specs.declared.reply.ScriptReply.{ScriptReply}
use Rattle.tx_reply.specs.declared.reply.ScriptReply.TheVariants as reply
use Rattle.tx_engine.specs.Semantics.{SlotState, free, session, EngineState, Transition, goes, shows, calls, began, seat_at, asked, came, first_free, lives, at_slot, live_at, is_too_many, edited, sends_by, delivers, finishes_by, begins_at, in_session, turn, learns, learnt, resolves_by, collected_as}
use Rattle.tx_evidence.specs.Tells.{Entered, entered_by, WasGiven, WasFound, TellsAnswer, TellsBy}
use Rattle.tx_evidence.specs.Buffers.{AllBy}
use Rattle.tx_evidence.proofs.Buffers.{IsRefusal, EntersBy, all_more, puts_by, inserts_so, deletes_by, locks_by}
use Rattle.tx_script.proofs.BufferOwners.{IsLive, AllOwn, own_more, own_set, own_begun, own_gone, first_is_free}
use Rattle.tx_evidence.proofs.Calls.{TellsSaid, TellsOwn, call_comes}
use Rattle.tx_evidence.proofs.Results.{ByFault, resolve_comes, gc_comes}
use Rattle.tx_script.proofs.TurnResults.{Since, since_same, AllTell, either, After, asked_tells, runs_tell}

-- a step's reply tells of what has then happened, and each session has what was entered under its
-- name
abbrev pub Replies : List Key → Entered → Step Text → EngineState → ScriptReply → Type 0
Replies bounds entered what next said = TellsBy bounds entered next.network.history what said
    × AllOwn (entered_by what entered) next.names next.slots

module _ (bounds : List Key) (entered : Entered) (engine : EngineState)
    (own : AllOwn entered engine.names engine.slots) where
  module _ (what : Step Text) where
    abbrev later : Entered
    later = entered_by what entered

    abbrev Turn : Transition → Type 0
    Turn t = AllTell bounds (Replies bounds entered what) t

    stay : AllOwn later engine.names engine.slots
    stay = own_more entered later engine.names engine.slots (λ q k o e. inr e) own

    stay_on : (next : EngineState) → Since engine next → AllOwn later next.names next.slots
    stay_on next since = subst (λ n. AllOwn later n next.slots) (sym since.names)
        (subst (λ s. AllOwn later engine.names s) (sym since.slots) stay)

    set_on : (name : Text) (k : ℕ) (s t : SessionState) → IsLive engine.names engine.slots name k s
        → AllBy (entered name) t.buffer → (next : EngineState) → Since engine next
        → AllOwn later next.names (slice_set next.slots k (session t))
    set_on name k s t live by next since =
        let it : AllOwn later engine.names (slice_set engine.slots k (session t)) =
        own_more entered later engine.names (slice_set engine.slots k (session t)) (λ q j o e. inr e)
        (own_set entered engine.names engine.slots own name k s t live by) in
        subst (λ n. AllOwn later n (slice_set next.slots k (session t))) (sym since.names)
        (subst (λ z. AllOwn later engine.names (slice_set z k (session t))) (sym since.slots) it)

    calls_tell : (refused : List Bool) (more : List Bool → Transition) → ((left : List Bool) → Turn (more left))
        → Turn (calls refused engine more)
    calls_tell refused more tell = either bounds (Replies bounds entered what) (is_refused refused) _ _ (tt, stay)
        (tell (later_of refused))

    or : (b : Bool) (t u : Transition) → Turn t → Turn u → Turn (cond b t u)
    or b t u x y = either bounds (Replies bounds entered what) b t u x y

    session_tells : (name : Text) (more : ℕ → SessionState → Transition) → ((k : ℕ) (s : SessionState)
        → IsLive engine.names engine.slots name k s → Turn (more k s)) → Turn (in_session (live_at engine name) more)
    session_tells name more tell = at_name (engine.names name) refl
      where
        at_place : (k : ℕ) (x : Option SlotState) → engine.names name ≡ Some k → slice_get engine.slots k ≡ x
            → Turn (in_session (lives k x) more)
        at_place k None named is = tt
        at_place k (Some free) named is = tt
        at_place k (Some (session s)) named is = tell k s (named, is)

        at_name : (o : Option ℕ) → engine.names name ≡ o → Turn (in_session (at_slot engine.slots o) more)
        at_name None named = tt
        at_name (Some k) named = at_place k (slice_get engine.slots k) named refl

    -- what a session's call came to
    came_tells : (name : Text) (k : ℕ) (s : SessionState) → IsLive engine.names engine.slots name k s
        → (t : SessionState) (said : Said) (next : EngineState) (left : List Bool) → Since engine next
        → AllBy (entered name) t.buffer → TellsSaid bounds entered name what next.network.history said
        → Turn (came k t said next left)
    came_tells name k s live t (Ok said) next left since by told = (told, set_on name k s t live by next since)
    came_tells name k s live t (Err c) next left since by told = tt

    refusal_tells : (h : History) (said : ScriptReply) → IsRefusal said → TellsBy bounds entered h what said
    refusal_tells h reply.OutOfMemory is = tt
    refusal_tells h reply.KeyLength is = tt
    refusal_tells h reply.ValueLength is = tt
    refusal_tells h reply.TooManyKeys is = tt
    refusal_tells h reply.AlreadyExists is = tt
    refusal_tells h _ is = absurd is

    edit_tells : (name : Text) (k : ℕ) (s : SessionState) → IsLive engine.names engine.slots name k s → (e : Edit)
        → EntersBy (later name) e → Turn (edited engine k s e)
    edit_tells name k s live (edit.stops c) by = tt
    edit_tells name k s live (edit.says said left) by = (refusal_tells engine.network.history said by, stay)
    edit_tells name k s live (edit.enters buffer left) by =
        (tt, own_set later engine.names engine.slots stay name k s (record s { buffer = buffer }) live by)

    learnt_tells : (name : Text) (k : ℕ) (s : SessionState) → IsLive engine.names engine.slots name k s
        → (met : LockInfo) (found : Status) (next : EngineState) (left : List Bool) → Since engine next
        → WasFound next.network.history found → Turn (learnt next k s met found left)
    learnt_tells name k s live met found next left since was = (
      was,
      set_on name k s (with_passed s met.start (lies_above found s.start)) live
          (passed (lies_above found s.start)) next since,
    )
      where
        passed : (b : Bool) → AllBy (entered name) (with_passed s met.start b).buffer
        passed false = own.own name k s live
        passed true = own.own name k s live

    resolve_tells : (name : Text) (k : ℕ) (s : SessionState) → IsLive engine.names engine.slots name k s
        → (refused : List Bool) (now : ℕ) (o : Option LockInfo) → Turn (resolves_by bounds refused engine k s now o)
    resolve_tells name k s live refused now None = tt
    resolve_tells name k s live refused now (Some met) =
        runs_tell bounds (Replies bounds entered what) WasFound deliveries.Taken refused engine
        (read_walk met s.start now)
        (λ found next left. learns next k s met found left) (resolve_comes met s.start now engine.network.history)
        (λ found next left since was. or (notes_one s met.start (lies_above found s.start)) _ _
        (or (is_refused left) _ _ (tt, stay_on next since)
        (learnt_tells name k s live met found next (later_of left) since was))
        (learnt_tells name k s live met found next left since was))

  abbrev buffer_of : Step Text → Text → Key → Option Value → Type 0
  buffer_of what name = entered_by what entered name

  act_tells : (name : Text) (what : Op Text) (refused : List Bool)
      → AllTell bounds (Replies bounds entered (step.Act name what)) (turn bounds refused (step.Act name what) engine)
  act_tells name op.Finish refused = session_tells (step.Act name op.Finish) name _
      (λ k s live. by k s live (finish_of s))
    where
      by : (k : ℕ) (s : SessionState) → IsLive engine.names engine.slots name k s → (o : Option Outcome)
          → AllTell bounds (Replies bounds entered (step.Act name op.Finish)) (finishes_by refused engine k s name o)
      by k s live None = tt
      by k s live (Some o) = (
        (s.start, inl refl),
        own_gone (later (step.Act name op.Finish)) engine.names engine.slots (stay (step.Act name op.Finish)) name k
            live.0,
      )
  act_tells name op.Stop refused = session_tells (step.Act name op.Stop) name _ (λ k s live. (
    tt,
    own_gone (later (step.Act name op.Stop)) engine.names engine.slots (stay (step.Act name op.Stop)) name k live.0,
  ))
  act_tells name (op.Resolve now) refused = session_tells (step.Act name (op.Resolve now)) name _
      (λ k s live. resolve_tells (step.Act name (op.Resolve now)) name k s live refused now s.met)
  act_tells name (op.Put key value) refused = session_tells (step.Act name (op.Put key value)) name _
      (λ k s live. edit_tells (step.Act name (op.Put key value)) name k s live (puts refused s key value)
      (puts_by (buffer_of (step.Act name (op.Put key value)) name) refused s
      (all_more (entered name) (buffer_of (step.Act name (op.Put key value)) name) (λ j o e. inr e) s.buffer
      (own.own name k s live)) key value (inl (refl, refl, refl))))
  act_tells name (op.Insert key value) refused = session_tells (step.Act name (op.Insert key value)) name _
      (λ k s live. edit_tells (step.Act name (op.Insert key value)) name k s live (inserts refused s key value)
      (inserts_so (buffer_of (step.Act name (op.Insert key value)) name) refused s
      (all_more (entered name) (buffer_of (step.Act name (op.Insert key value)) name) (λ j o e. inr e) s.buffer
      (own.own name k s live)) key value (inl (refl, refl, refl))))
  act_tells name (op.Delete key) refused = session_tells (step.Act name (op.Delete key)) name _
      (λ k s live. edit_tells (step.Act name (op.Delete key)) name k s live (deletes refused s key)
      (deletes_by (buffer_of (step.Act name (op.Delete key)) name) refused s
      (all_more (entered name) (buffer_of (step.Act name (op.Delete key)) name) (λ j o e. inr e) s.buffer
      (own.own name k s live)) key (inl (refl, refl, refl))))
  act_tells name (op.Lock key) refused = session_tells (step.Act name (op.Lock key)) name _
      (λ k s live. edit_tells (step.Act name (op.Lock key)) name k s live (locks refused s key)
      (locks_by (buffer_of (step.Act name (op.Lock key)) name) refused s
      (all_more (entered name) (buffer_of (step.Act name (op.Lock key)) name) (λ j o e. inr e) s.buffer
      (own.own name k s live)) key))
  act_tells name (op.Declare mode ttl max_commit) refused =
      session_tells (step.Act name (op.Declare mode ttl max_commit)) name _ (λ k s live.
      or (step.Act name (op.Declare mode ttl max_commit)) (is_declared s) _ _ tt
      (or (step.Act name (op.Declare mode ttl max_commit)) (exceeds s.buffer record {
        mode = mode;
        ttl = ttl;
        max_commit = max_commit;
      }) _ _ (tt, stay (step.Act name (op.Declare mode ttl max_commit))) (
        tt,
        set_on (step.Act name (op.Declare mode ttl max_commit)) name k s _ live (own.own name k s live) engine
            (since_same engine),
      )))
  act_tells name op.Draw refused = session_tells (step.Act name op.Draw) name _ (λ k s live.
      or (step.Act name op.Draw) (can_draw s) _ _ (
        (seat_at bounds k, inl refl),
        set_on (step.Act name op.Draw) name k s _ live (own.own name k s live) engine (since_same engine),
      ) tt)

  send_tells : (name : Text) (what : Call Text) (delivery : Delivery Text) (refused : List Bool) (k : ℕ)
      (s : SessionState) → IsLive engine.names engine.slots name k s
      → AllTell bounds (Replies bounds entered (step.Send name what delivery))
      (sends_by refused engine k s bounds what delivery)
  send_tells name what delivery refused k s live =
      let it : Step Text = step.Send name what delivery in
      runs_tell bounds (Replies bounds entered it) (TellsOwn bounds entered name it) delivery refused engine
      (call_walk bounds s what) (λ x next left. came k x.0 x.1 next left)
      (call_comes bounds entered name engine.network.history s (own.own name k s live) what delivery)
      (λ x next left since told. came_tells it name k s live x.0 x.1 next left since told.0 told.1)

  begin_tells : (name : Text) (refused : List Bool) (o : Option ℕ) → first_free engine.slots ≡ o
      → AllTell bounds (Replies bounds entered (step.Begin name)) (begins_at bounds refused engine name o)
  begin_tells name refused None is = tt
  begin_tells name refused (Some k) is = calls_tell (step.Begin name) refused
      (λ left. goes (began bounds engine name k) (reply.Start (last engine.network.history + 1)) left) (λ left. (
        ((seat_at bounds k, inr (inl refl)), inl refl),
        own_begun (later (step.Begin name)) engine.names engine.slots (stay (step.Begin name)) name k
            (last engine.network.history + 1) (first_is_free engine.slots k is),
      ))

  -- what comes of a request of no session
  alone_tells : (what : Step Text) (b : Body) → ((h : History) (a : Answer) → RespondsSo h b (Ok a)
      → TellsAnswer bounds entered h what a) → (refused : List Bool)
      → AllTell bounds (Replies bounds entered what)
      (asked bounds refused engine b (λ c next rest. goes next (read_reply c) rest))
  alone_tells what b tell refused = asked_tells bounds (Replies bounds entered what) refused engine b
      (λ c next rest. goes next (read_reply c) rest) on
    where
      on : After bounds (Replies bounds entered what) engine b (λ c next rest. goes next (read_reply c) rest)
      on (Err miss.Lost) next left since was = (tt, stay_on what next since)
      on (Err miss.Fault) next left since was = (tt, stay_on what next since)
      on (Ok a) next left since was = (tell next.network.history a was, stay_on what next since)

  deliver_tells : (name : Text) (refused : List Bool) (o : Option Body)
      → AllTell bounds (Replies bounds entered (step.Deliver name)) (delivers bounds refused engine o)
  deliver_tells name refused None = tt
  deliver_tells name refused (Some b) = calls_tell (step.Deliver name) refused
      (λ left. asked bounds left engine b (λ c next rest. goes next (read_reply c) rest))
      (λ left. alone_tells (step.Deliver name) b (λ h a was. (b, was)) left)

  refused_tells : (safe : ℕ) (h : History) (f : Fault) → ByFault {A = Counts} h (Err f)
      → TellsBy bounds entered h (step.Gc safe) (collected_as (Err f))
  refused_tells safe h (fault.LocksRemain met) was = was
  refused_tells safe h (fault.BelowSafePoint n) was = was
  refused_tells safe h (fault.FutureTimestamp n) was = was
  refused_tells safe h _ was = tt

  collected_tells : (safe : ℕ) (h : History) (r : Result Counts Fault) → ByFault h r
      → TellsBy bounds entered h (step.Gc safe) (collected_as r)
  collected_tells safe h (Ok counts) was = tt
  collected_tells safe h (Err f) was = refused_tells safe h f was

  pub turn_tells : (what : Step Text) (refused : List Bool)
      → AllTell bounds (Replies bounds entered what) (turn bounds refused what engine)
  turn_tells (step.Begin name) refused = or (step.Begin name) (not (is_name name)) _ _ tt
      (or (step.Begin name) (is_some (engine.names name)) _ _ tt
      (begin_tells name refused (first_free engine.slots) refl))
  turn_tells (step.Act name what) refused = act_tells name what refused
  turn_tells (step.Send name what delivery) refused = session_tells (step.Send name what delivery) name _
      (λ k s live. or (step.Send name what delivery) (not (may_go engine.network delivery)) _ _ tt
      (or (step.Send name what delivery) (is_too_many engine.network s what delivery) _ _ tt
      (send_tells name what delivery refused k s live)))
  turn_tells (step.Deliver name) refused = deliver_tells name refused (engine.network.held name)
  turn_tells (step.Read key at) refused = or (step.Read key at) (not (is_key key)) _ _ (tt, stay (step.Read key at))
      (calls_tell (step.Read key at) refused
      (λ left. asked bounds left engine (request.Get (record { key = key; at = at; bypass = [] }))
      (λ c next rest. goes next (read_reply c) rest))
      (λ left. alone_tells (step.Read key at) (request.Get (record { key = key; at = at; bypass = [] }))
      (λ h a was. was) left))
  turn_tells (step.Versions key) refused = or (step.Versions key) (not (is_key key)) _ _ (tt, stay (step.Versions key))
      (calls_tell (step.Versions key) refused
      (λ left. shows engine.network key (λ copy. goes engine (reply.Versions copy) left))
      (λ left. λ copy may. (
        (engine.network.history, begins_all engine.network.history, may),
        stay
            (step.Versions key),
      )))
  turn_tells (step.Tick n) refused = or (step.Tick n) (nat_eq n 0) _ _ tt
      (or (step.Tick n) (nat_le n engine.ticks) _ _ ((length bounds + 1, inl refl), stay (step.Tick n))
      (tt, stay (step.Tick n)))
  turn_tells (step.Gc safe) refused =
      runs_tell bounds (Replies bounds entered (step.Gc safe)) ByFault deliveries.Taken refused engine
      (gc_walk bounds safe) _ (gc_comes bounds safe engine.network.history)
      (λ r next left since by. (collected_tells safe next.network.history r by, stay_on (step.Gc safe) next since))
  turn_tells (step.Seed key value) refused = tt
  turn_tells (step.Transfer name what) refused = tt
