-- What each step of a script does, in one thread in which nobody else acts: the events that it
-- makes, what it changes of its session, and its reply.
use Rattle.std.specs.Prelude.{ℕ, ◌+◌, ◌-◌, ◌&&◌, not, Bool, List, [], ◌∷◌, length, replicate, nat_eq, nat_le, slice_get, slice_set, Option, Some, None, option_map, is_some, if◌then◌else◌, Result, Ok, Err, bytes_eq}
use Rattle.std.specs.Map.{update}
use Rattle.tx_types.specs.declared.fault.Fault.{Fault}
use Rattle.tx_types.specs.declared.fault.Fault.TheVariants as fault
use Rattle.tx_types.specs.declared.fault.Cause.{Cause}
use Rattle.tx_types.specs.declared.fault.Cause.TheVariants.{Form, Name, Order, Sessions}
use Rattle.tx_types.specs.declared.key.Key.{Key}
use Rattle.tx_types.specs.declared.lock.LockInfo.{LockInfo}
use Rattle.tx_types.specs.Keys.{key_lt}
use Rattle.tx_types.specs.Lengths.{is_key}
use Rattle.tx_plan.specs.declared.body.Body.{Body}
use Rattle.tx_plan.specs.declared.body.Body.TheVariants as request
use Rattle.tx_plan.specs.declared.answer.Answer.{Answer}
use Rattle.tx_plan.specs.declared.answer.Answer.TheVariants as answer
use Rattle.tx_cells.specs.declared.copies.KeyVersions.{KeyVersions}
use Rattle.tx_core.specs.declared.event.Declaration.{Declaration}
use Rattle.tx_core.specs.declared.event.Outcome.{Outcome}
use Rattle.tx_core.specs.declared.event.Event.TheVariants.{Drawn, Began, Declared, Answered, Stopped}
use Rattle.tx_core.specs.Histories.{History, last}
use Rattle.tx_transaction.specs.declared.state.Terms.{Terms}
use Rattle.tx_transaction.specs.Returns.{Response}
use Rattle.tx_transaction.specs.declared.state.Miss.TheVariants as miss
use Rattle.tx_client.specs.declared.resolved.Status.{Status}
use Rattle.tx_client.specs.declared.resolved.Status.TheVariants as status
use Rattle.tx_client.specs.declared.resolved.WaitCause.TheVariants as wait
use Rattle.tx_transaction.specs.Buffers.{Entries, buffered, is_known}
use Rattle.tx_transaction.specs.Sessions.{SessionState, begun, is_declared, has_primary, exceeds, declaration, due_prewrite, due_commit, due_abort, can_draw, can_commit, can_abort, finish_of, notes_one, with_passed}
use Rattle.tx_client.specs.Statuses.{lies_above}
use Rattle.tx_client.specs.Walks.{Walk, asks, grows, ends}
use Rattle.tx_resolve.specs.declared.collector.Counts.{Counts}
use Rattle.tx_resolve.specs.BlockedReads.{read_walk}
use Rattle.tx_resolve.specs.Collection.{gc_walk}
use Rattle.tx_steps.specs.declared.delivery.Delivery.TheVariants as deliveries
use Rattle.tx_reply.specs.declared.reply.ScriptReply.{ScriptReply}
use Rattle.tx_reply.specs.declared.reply.ScriptReply.TheVariants as reply
use Rattle.tx_ops.specs.Edits.{Edit, is_refused, later_of, puts, inserts, deletes, locks}
use Rattle.tx_ops.specs.Edits as edit
use Rattle.tx_ops.specs.Calls.{Said, read_reply, call_walk}
use Rattle.tx_types.specs.Names.{is_name}
use Rattle.tx_steps.specs.declared.delivery.Delivery.{Delivery}
use Rattle.tx_steps.specs.Steps.{Text}
use Rattle.tx_network.specs.Networks.{NetworkState, with_events, taken, holding, takes_memory, may_go, is_crowded}
use Rattle.tx_steps.specs.declared.call.Call.{Call}
use Rattle.tx_steps.specs.declared.call.Call.TheVariants as call
use Rattle.tx_steps.specs.declared.op.Op.{Op}
use Rattle.tx_steps.specs.declared.op.Op.TheVariants as op
use Rattle.tx_steps.specs.declared.step.Step.{Step}
use Rattle.tx_steps.specs.declared.step.Step.TheVariants as step

-- a slot: free, or with a live session
pub data SlotState : Type 0 where
  free : SlotState
  session : (state : SessionState) → SlotState

-- where a script stands: what has happened, the ticks that the seat for no session may still draw,
-- the slots of the live sessions' names, and the slots, each of which has a seat
pub record EngineState : Type 0 where
  pub network : NetworkState
  pub ticks : ℕ
  pub names : List ℕ → Option ℕ
  pub slots : List SlotState

-- before the first step, with so many slots; a seat may draw 2^32 ticks
abbrev pub opening : ℕ → EngineState
opening n = record {
  network = record { history = []; held = λ q. None; kept = 0 };
  ticks = 4294967296;
  names = λ q. None;
  slots = replicate n free;
}

-- A step goes on with an engine state, a reply and the refusals that are left; or a region is first
-- asked, at this stage, and it goes on by the answer; or a region shows what it keeps of a key, and
-- it goes on by that; or it stops the script.
pub data Transition : Type 0 where
  goes : (engine : EngineState) (said : ScriptReply) (refused : List Bool) → Transition
  inquires : (network : NetworkState) (body : Body) (more : Answer → Transition) → Transition
  shows : (network : NetworkState) (key : Key) (more : KeyVersions → Transition) → Transition
  stops : (cause : Cause) → Transition

-- ---- want of memory

-- a call that may need memory: refused, it changes nothing
abbrev pub calls : List Bool → EngineState → (List Bool → Transition) → Transition
calls refused engine more = if is_refused refused then goes engine reply.OutOfMemory (later_of refused)
    else more (later_of refused)

-- ---- requests too many

-- whether a session sends a request, by what it is to send: what its buffer answers is not sent,
-- and neither is what its state does not allow
abbrev pub is_sent : SessionState → Call Text → Bool
is_sent s (call.Get key) = not (is_known (buffered s.buffer key))
is_sent s (call.Scan from to limit) = key_lt from to
is_sent s call.Prewrite = is_declared s && is_some (due_prewrite s)
is_sent s call.Commit = can_commit s && is_some (due_commit s)
is_sent s call.Abort = can_abort s && is_some (due_abort s)
is_sent s (call.Heartbeat ttl) = has_primary s

-- what a session sends would be held as one request too many
abbrev pub is_too_many : NetworkState → SessionState → Call Text → Delivery Text → Bool
is_too_many network s what delivery = is_crowded network delivery && is_sent s what

-- ---- engine states that follow

abbrev pub at_network : EngineState → NetworkState → EngineState
at_network engine s = record engine { network = s }

abbrev pub at_history : EngineState → History → EngineState
at_history engine h = at_network engine (with_events engine.network h)

-- a session has another state
abbrev pub with_session : EngineState → ℕ → SessionState → EngineState
with_session engine k s = record engine { slots = slice_set engine.slots k (session s) }

-- the seat of a slot: those of the regions come first, and then one for what no session does
abbrev pub seat_at : List Key → ℕ → ℕ
seat_at bounds k = length bounds + 2 + k

-- what the session of this seat declares, for which it draws a number first
abbrev pub declared_in : ℕ → History → Option Declaration → History
declared_in seat h None = h
declared_in seat h (Some d) = Declared d ∷ Drawn seat d.drawn ∷ h

-- the number that is drawn for what a buffer declares: the next one, and 0 where it
-- declares nothing
abbrev pub placed_in : History → Entries → ℕ
placed_in h [] = 0
placed_in h (e ∷ es) = last h + 1

-- a session is gone, and its slot is free
abbrev pub gone : EngineState → List ℕ → ℕ → EngineState
gone engine name k = record engine {
  names = update bytes_eq engine.names name None;
  slots = slice_set engine.slots k free;
}

module _ (bounds : List Key) where
  -- a transaction begins under a name, at a slot
  abbrev pub began : EngineState → List ℕ → ℕ → EngineState
  began engine name k = record engine {
    network = with_events engine.network (Began (last engine.network.history + 1)
        ∷ Drawn (seat_at bounds k) (last engine.network.history + 1) ∷ engine.network.history);
    names = update bytes_eq engine.names name (Some k);
    slots = slice_set engine.slots k (session (begun (last engine.network.history + 1)));
  }

  -- a session draws its commit timestamp
  abbrev pub drew : EngineState → ℕ → SessionState → EngineState
  drew engine k s =
      with_session (at_history engine (Drawn (seat_at bounds k) (last engine.network.history + 1)
      ∷ engine.network.history)) k (record s { drawn = Some (last engine.network.history + 1) })

  -- the seat for no session draws so many ticks
  abbrev pub ticked : EngineState → ℕ → EngineState
  ticked engine n = record engine {
    network = with_events engine.network (Drawn (length bounds + 1) (last engine.network.history + n)
        ∷ engine.network.history);
    ticks = engine.ticks - n;
  }

  -- ---- requests

  -- a region takes a request, and its reply comes
  abbrev pub answers : EngineState → Body → (Response → EngineState → List Bool → Transition) → List Bool → Transition
  answers engine body on left =
      inquires engine.network body (λ a. on (Ok a)
      (at_network engine (taken bounds engine.network body a)) left)

  -- a region is asked: where it may need memory for its answer, that may be refused, and then it
  -- took nothing
  abbrev pub asked : List Bool → EngineState → Body → (Response → EngineState → List Bool → Transition) → Transition
  asked refused engine body on =
      if takes_memory body
      then (if is_refused refused then on (Err miss.Fault) engine (later_of refused)
      else answers engine body on (later_of refused))
      else answers engine body on refused

  -- a request, by its delivery
  abbrev pub sent : Delivery Text → List Bool → EngineState → Body → (Response → EngineState → List Bool → Transition)
      → Transition
  sent deliveries.Taken refused engine body on = asked refused engine body on
  sent deliveries.Lost refused engine body on = on (Err miss.Lost) engine refused
  sent deliveries.Unanswered refused engine body on = asked refused engine body (λ c. on (Err miss.Lost))
  sent deliveries.Repeated refused engine body on =
      if is_refused refused then on (Err miss.Fault) engine (later_of refused)
      else asked (later_of refused) engine body (λ c next left. asked left next body on)
  sent (deliveries.Held name) refused engine body on =
      if is_refused refused then on (Err miss.Fault) engine (later_of refused)
      else on (Err miss.Lost) (at_network engine (holding engine.network name body)) (later_of refused)

  -- the requests of a walk
  abbrev pub runs : {R : Type 0} → Delivery Text → List Bool → EngineState → Walk R
      → (R → EngineState → List Bool → Transition) → Transition
  runs delivery refused engine (ends r) on = on r engine refused
  runs delivery refused engine (grows more short) on =
      if is_refused refused then runs delivery (later_of refused) engine short on
      else runs delivery (later_of refused) engine more on
  runs delivery refused engine (asks body more) on =
      sent delivery refused engine body (λ c next left. runs delivery left next (more c) on)

-- what a call came to: a state of its session and what its line is told, or it is not allowed
abbrev pub came : ℕ → SessionState → Said → EngineState → List Bool → Transition
came k s (Ok said) engine left = goes (with_session engine k s) said left
came k s (Err cause) engine left = stops cause

-- ---- slots

-- the first slot that is free
abbrev pub first_free : List SlotState → Option ℕ
first_free [] = None
first_free (free ∷ slots) = Some 0
first_free (session s ∷ slots) = option_map (λ k. k + 1) (first_free slots)

-- a slot, and the session there
abbrev pub lives : ℕ → Option SlotState → Option (ℕ × SessionState)
lives k (Some (session s)) = Some (k, s)
lives k _ = None

abbrev pub at_slot : List SlotState → Option ℕ → Option (ℕ × SessionState)
at_slot slots None = None
at_slot slots (Some k) = lives k (slice_get slots k)

-- the live session of a name
abbrev pub live_at : EngineState → List ℕ → Option (ℕ × SessionState)
live_at engine name = at_slot engine.slots (engine.names name)

-- ---- the steps of a session

-- what an edit of a session's buffer leads to, in an engine state and at a slot
abbrev pub edited : EngineState → ℕ → SessionState → Edit → Transition
edited engine k s (edit.stops cause) = stops cause
edited engine k s (edit.says said left) = goes engine said left
edited engine k s (edit.enters buffer left) =
    goes (with_session engine k (record s { buffer = buffer })) reply.Fine left

module _ (refused : List Bool) (engine : EngineState) (k : ℕ) (s : SessionState) where
  module _ (bounds : List Key) where
    -- the engine state after it declared
    abbrev pub placed : Terms → EngineState
    placed terms =
        with_session (at_history engine (declared_in (seat_at bounds k) engine.network.history
        (declaration s.start (placed_in engine.network.history s.buffer) s.buffer terms))) k
        (record s { declared = Some terms; placed = placed_in engine.network.history s.buffer })

    -- a session declares once, and takes no memory for it: an empty buffer is no event
    abbrev pub declares : Terms → Transition
    declares terms =
        if is_declared s then stops Order
        else (if exceeds s.buffer terms then goes engine reply.TooManyKeys refused
        else goes (placed terms) reply.Fine refused)

    abbrev pub draws : Transition
    draws = if can_draw s then goes (drew bounds engine k s) (reply.Drawn (last engine.network.history + 1)) refused
        else stops Order

    -- what a live session does by itself in its slot; what takes it out of there follows below
    abbrev pub edits : Op Text → Transition
    edits (op.Put key value) = edited engine k s (puts refused s key value)
    edits (op.Insert key value) = edited engine k s (inserts refused s key value)
    edits (op.Delete key) = edited engine k s (deletes refused s key)
    edits (op.Lock key) = edited engine k s (locks refused s key)
    edits (op.Declare mode ttl max_commit) = declares (record { mode = mode; ttl = ttl; max_commit = max_commit })
    edits op.Draw = draws
    edits _ = stops Order

    -- what a live session sends: the requests of its call's walk
    abbrev pub sends_by : Call Text → Delivery Text → Transition
    sends_by what delivery =
        runs bounds delivery refused engine (call_walk bounds s what) (λ x next left. came k x.0 x.1 next left)

    -- what a live session sends, where that may go as its step says, and is not held as one too
    -- many
    abbrev pub sends : Call Text → Delivery Text → Transition
    sends what delivery =
        if not (may_go engine.network delivery) then stops Name
        else (if is_too_many engine.network s what delivery then stops Sessions
        else sends_by what delivery)

  -- a session answers its outcome, and is gone
  abbrev pub finishes_by : List ℕ → Option Outcome → Transition
  finishes_by name None = stops Order
  finishes_by name (Some o) = goes (gone (at_history engine (Answered s.start o
      ∷ engine.network.history)) name k) (reply.Ended o) refused

  abbrev pub finishes : List ℕ → Transition
  finishes name = finishes_by name (finish_of s)

  -- a session stops, and is gone
  abbrev pub leaves : List Key → List ℕ → Transition
  leaves bounds name = goes (gone (at_history engine (Stopped (seat_at bounds k)
      ∷ engine.network.history)) name k) reply.Fine refused

-- ---- resolving and collecting: no request of theirs is lost

-- a session learns what was found of the transaction of a lock: its reads may then pass by that
abbrev pub learnt : EngineState → ℕ → SessionState → LockInfo → Status → List Bool → Transition
learnt engine k s met found left =
    goes (with_session engine k (with_passed s met.start (lies_above found s.start))) (reply.Status found) left

-- memory for that was refused, so it waits; what was found will be found again
abbrev pub waits : EngineState → List Bool → Transition
waits engine left = goes engine (reply.Status (status.Waiting wait.OutOfMemory)) left

-- It takes memory only where its reads pass by one more.
abbrev pub learns : EngineState → ℕ → SessionState → LockInfo → Status → List Bool → Transition
learns engine k s met found left =
    if notes_one s met.start (lies_above found s.start)
    then (if is_refused left then waits engine (later_of left) else learnt engine k s met found (later_of left))
    else learnt engine k s met found left

module _ (bounds : List Key) where
  -- the lock that was met last is resolved for the session's reads, at a time
  abbrev pub resolves_by : List Bool → EngineState → ℕ → SessionState → ℕ → Option LockInfo → Transition
  resolves_by refused engine k s now None = stops Order
  resolves_by refused engine k s now (Some met) =
      runs bounds deliveries.Taken refused engine (read_walk met s.start now) (λ found next left.
      learns next k s met found left)

  abbrev pub resolves : List Bool → EngineState → ℕ → SessionState → ℕ → Transition
  resolves refused engine k s now = resolves_by refused engine k s now s.met

-- the refusal of a safe point, or of memory
abbrev pub refused_as : Fault → ScriptReply
refused_as (fault.BelowSafePoint safe) = reply.Answered (answer.BelowSafePoint safe)
refused_as (fault.FutureTimestamp last) = reply.Answered (answer.FutureTimestamp last)
refused_as _ = reply.OutOfMemory

-- what a collection gives: the sums, or the refusal that ended it
abbrev pub collected_as : Result Counts Fault → ScriptReply
collected_as (Ok counts) = reply.Collected counts.records counts.values
collected_as (Err (fault.LocksRemain met)) = reply.Answered (answer.LocksRemain met)
collected_as (Err e) = refused_as e

-- old versions are collected at a safe point
abbrev pub collects : List Key → List Bool → EngineState → ℕ → Transition
collects bounds refused engine safe = runs bounds deliveries.Taken refused engine (gc_walk bounds safe)
    (λ r next left. goes next (collected_as r) left)

-- ---- delivery

-- a copy of a held request is made and taken, and its session hears nothing of it; the request
-- stays held
abbrev pub delivers : List Key → List Bool → EngineState → Option Body → Transition
delivers bounds refused engine None = stops Name
delivers bounds refused engine (Some body) =
    calls refused engine (λ left. asked bounds left engine body (λ c next rest. goes next (read_reply c) rest))

-- ---- what is kept of a key

-- what the region of a key keeps of it is shown: no request is sent, and nothing changes
abbrev pub inspects : List Bool → EngineState → List ℕ → Transition
inspects refused engine key =
    if not (is_key key) then goes engine reply.KeyLength refused
    else calls refused engine (λ left. shows engine.network key (λ copy. goes engine (reply.Versions copy) left))

-- ---- the steps

-- the step of a session, which has to be live
abbrev pub in_session : Option (ℕ × SessionState) → (ℕ → SessionState → Transition) → Transition
in_session None more = stops Name
in_session (Some x) more = more x.0 x.1

module _ (bounds : List Key) where
  abbrev pub begins_at : List Bool → EngineState → List ℕ → Option ℕ → Transition
  begins_at refused engine name None = stops Sessions
  begins_at refused engine name (Some k) = calls refused engine
      (λ left. goes (began bounds engine name k) (reply.Start (last engine.network.history + 1)) left)

  -- a name of no live session and of 1 to 64 bytes begins one, where a slot is free
  abbrev pub begins : List Bool → EngineState → List ℕ → Transition
  begins refused engine name =
      if not (is_name name) then stops Name
      else (if is_some (engine.names name) then stops Name
      else begins_at refused engine name (first_free engine.slots))

  -- a key is read at a timestamp, and no lock passed by
  abbrev pub looks : List Bool → EngineState → List ℕ → ℕ → Transition
  looks refused engine key at =
      if not (is_key key) then goes engine reply.KeyLength refused
      else calls refused engine (λ left. asked bounds left engine (request.Get (record {
        key = key;
        at = at;
        bypass = [];
      })) (λ c next rest. goes next (read_reply c) rest))

  -- at least one tick is drawn, and no more than the seat has left
  abbrev pub ticks_by : List Bool → EngineState → ℕ → Transition
  ticks_by refused engine n =
      if nat_eq n 0 then stops Form
      else (if nat_le n engine.ticks then goes (ticked bounds engine n) (reply.Last (last engine.network.history
      + n)) refused
      else goes engine reply.OracleSpent refused)

  -- what a step leads to; a script of one thread has no seeds and no transfers
  abbrev pub turn : List Bool → Step Text → EngineState → Transition
  turn refused (step.Begin name) engine = begins refused engine name
  turn refused (step.Act name op.Finish) engine = in_session (live_at engine name)
      (λ k s. finishes refused engine k s name)
  turn refused (step.Act name op.Stop) engine = in_session (live_at engine name)
      (λ k s. leaves refused engine k s bounds name)
  turn refused (step.Act name (op.Resolve now)) engine =
      in_session (live_at engine name) (λ k s. resolves bounds refused engine k s now)
  turn refused (step.Act name what) engine = in_session (live_at engine name)
      (λ k s. edits refused engine k s bounds what)
  turn refused (step.Send name what delivery) engine =
      in_session (live_at engine name) (λ k s. sends refused engine k s bounds what delivery)
  turn refused (step.Deliver name) engine = delivers bounds refused engine (engine.network.held name)
  turn refused (step.Read key at) engine = looks refused engine key at
  turn refused (step.Versions key) engine = inspects refused engine key
  turn refused (step.Tick n) engine = ticks_by refused engine n
  turn refused (step.Gc safe) engine = collects bounds refused engine safe
  turn refused (step.Seed key value) engine = stops Form
  turn refused (step.Transfer name what) engine = stops Form
