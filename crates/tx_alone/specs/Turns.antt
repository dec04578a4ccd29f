-- What a step of a run is in the words of `simulate`: the turn of an engine in which just that has
-- happened which the session's seat knows.
use Rattle.std.specs.Prelude.{◌≡◌, ◌<◌, ◌++◌, ℕ, Bool, false, List, slice_get, slice_set, Some, None, Ok, Err, bytes_eq}
use Rattle.std.specs.Map.{update}
use Rattle.tx_types.specs.Names.{is_name}
use Rattle.tx_types.specs.declared.fault.Cause.{Cause}
use Rattle.tx_types.specs.declared.key.Key.{Key}
use Rattle.tx_types.specs.declared.mutation.Mode.TheVariants.{TwoPhase}
use Rattle.tx_plan.specs.declared.answer.Answer.{Answer}
use Rattle.tx_plan.specs.declared.body.Body.{Body}
use Rattle.tx_plan.specs.Answers.{Answers}
use Rattle.tx_cells.specs.declared.copies.KeyVersions.{KeyVersions}
use Rattle.tx_core.specs.Histories.{History, last, left}
use Rattle.tx_core.specs.ReadMarks.{AnswersNext}
use Rattle.tx_journal.specs.Known.{Known}
use Rattle.tx_transaction.specs.declared.state.Terms.{Terms}
use Rattle.tx_transaction.specs.Sessions.{SessionState}
use Rattle.tx_client.specs.Calls.{Seated}
use Rattle.tx_steps.specs.declared.call.Call.TheVariants as call
use Rattle.tx_steps.specs.declared.delivery.Delivery.TheVariants as delivery
use Rattle.tx_steps.specs.declared.op.Op.TheVariants as op
use Rattle.tx_steps.specs.declared.step.Step.{Step}
use Rattle.tx_steps.specs.declared.step.Step.TheVariants as step
use Rattle.tx_steps.specs.Steps.{Text}
use Rattle.tx_reply.specs.declared.reply.ScriptReply.{ScriptReply}
use Rattle.tx_ops.specs.Calls.{Said}
use Rattle.tx_network.specs.Networks.{MayShowSo, region_for, with_events}
use Rattle.tx_engine.specs.Semantics.{EngineState, Transition, at_history, first_free, goes, gone, inquires, seat_at, session, shows, stops, turn, with_session}
use Rattle.tx_alone.specs.Ways.{CountsAnswers, IsAlone, MakesBy}

-- what a region may answer to a request after a history
abbrev pub Table : Type 1
Table = History → ℕ → Body → Answer → Type 0

-- by the case tables, where the minimum of an async lock is free
abbrev pub AnyMinimum : Table
AnyMinimum h n body a = Answers (left h n) (last h) (last h) body a

-- the same, with the least minimum, as a region of `simulate` answers
abbrev pub LeastMinimum : Table
LeastMinimum h n body a = AnswersNext h n (last h) body a

module _ (May : Table) (bounds : List Key) where
  -- a turn goes on so, or stops so, where the regions that are asked answer by this table
  abbrev pub LeadsBy : (EngineState → ScriptReply → List Bool → Type 0) → (Cause → Type 0) → Transition → Type 0
  LeadsBy Goes Stops (goes engine said refused) = Goes engine said refused
  LeadsBy Goes Stops (inquires network body more) = (a : Answer)
      × May network.history (region_for bounds body) body a × LeadsBy Goes Stops (more a)
  LeadsBy Goes Stops (shows network key more) = (copy : KeyVersions) × MayShowSo bounds network key copy
      × LeadsBy Goes Stops (more copy)
  LeadsBy Goes Stops (stops cause) = Stops cause

  -- it goes on to an engine state with this reply, whatever is refused after it
  abbrev pub GoesBy : (List Bool → Transition) → ScriptReply → EngineState → Type 0
  GoesBy turn reply next = (refused : List Bool)
      × ((later : List Bool) → LeadsBy (λ n said left. (n ≡ next) × (said ≡ reply) × (left ≡ later)) (λ cause. ⊥)
      (turn (refused ++ later)))

  -- it goes on so; or it stops for the cause that is said, whatever is refused
  abbrev pub TurnsBy : (List Bool → Transition) → Said → EngineState → Type 0
  TurnsBy turn (Ok reply) next = GoesBy turn reply next
  TurnsBy turn (Err cause) next = (refused : List Bool) → turn refused ≡ stops cause

  -- the turn of a step does
  abbrev pub IsTurn : Step Text → EngineState → Said → EngineState → Type 0
  IsTurn what e said next = TurnsBy (λ refused. turn bounds refused what e) said next

-- A line is a step of a live session of this name, which neither ends it nor resolves a lock. In a
-- run each request simply arrives.
abbrev pub IsStepOf : Text → Step Text → Type 0
IsStepOf name (step.Begin n) = n ≡ name
IsStepOf name (step.Act n op.Finish) = ⊥
IsStepOf name (step.Act n op.Stop) = ⊥
IsStepOf name (step.Act n (op.Resolve now)) = ⊥
IsStepOf name (step.Act n what) = n ≡ name
IsStepOf name (step.Send n what delivery.Taken) = n ≡ name
IsStepOf name _ = ⊥

-- a step of the session of this name, where it begins none: its name is not one, or it is any other
abbrev pub IsNamed : Text → Step Text → Type 0
IsNamed name (step.Begin n) = (n ≡ name) × (is_name name ≡ false)
IsNamed name (step.Act n what) = n ≡ name
IsNamed name (step.Send n what d) = n ≡ name
IsNamed name _ = ⊥

-- a prewrite is of no async commit
abbrev pub IsTwoPhase : Step Text → SessionState → Type 0
IsTwoPhase (step.Send name call.Prewrite d) s = (terms : Terms) → s.declared ≡ Some terms
    → terms.mode ≡ TwoPhase
IsTwoPhase _ s = Unit {0}

module _ (bounds : List Key) (e : EngineState) (name : List ℕ) (k : ℕ) where
  -- A session is live there under this name, at this slot, of which its seat is; what has happened
  -- there is just what its seat knows.
  pub record IsLive (s : Seated) : Type 0 where
    pub named : e.names name ≡ Some k
    pub there : slice_get e.slots k ≡ Some (session s.state)
    pub seat : s.seat.seat ≡ seat_at bounds k
    pub knows : e.network.history ≡ s.seat.events

  -- no session has this name there, the first slot that is free is this one, of which this seat is;
  -- what has happened there is just what it knows
  pub record IsFree (seat : Known) : Type 0 where
    pub unnamed : e.names name ≡ None
    pub first : first_free e.slots ≡ Some k
    pub seat_is : seat.seat ≡ seat_at bounds k
    pub knows : e.network.history ≡ seat.events

-- Nobody else acted while a session, live there under this name, made this step over a store: each
-- event that came to what its seat knows is its own, or answers one of its requests. Its seat has
-- ticks left, as each seat of `simulate` has.
pub record MakesAlone (bounds : List Key) (e : EngineState) (name : List ℕ) (k : ℕ) (what : Step Text) (old : Seated)
    (said : Said) (new : Seated) : Type 0 where
  pub live : IsLive bounds e name k old
  pub ticks : 0 < old.seat.ticks
  pub answered : ℕ
  pub makes : MakesBy CountsAnswers bounds what old 0 said new answered
  pub alone : IsAlone old.seat answered new.seat

-- where the session then is so, and just that has happened which its seat then knows
abbrev pub with_live : EngineState → ℕ → Seated → EngineState
with_live e k s = with_session (at_history e s.seat.events) k s.state

-- where it began under this name
abbrev pub with_begun : EngineState → List ℕ → ℕ → Seated → EngineState
with_begun e name k s = record e {
  network = with_events e.network s.seat.events;
  names = update bytes_eq e.names name (Some k);
  slots = slice_set e.slots k (session s.state);
}

-- where it is gone, and its seat knows this
abbrev pub with_gone : EngineState → List ℕ → ℕ → Known → EngineState
with_gone e name k seat = gone (at_history e seat.events) name k
