-- A line of a session is the turn of `simulate`, where nobody else acted.
use Rattle.std.proofs.Common.{◌<◌, ℕ, List, None, Result, Ok, Err, refl, sym, subst}
use Rattle.tx_types.specs.declared.fault.Cause.{Cause}
use Rattle.tx_types.specs.declared.key.Key.{Key}
use Rattle.tx_core.specs.declared.event.Event.TheVariants.{Answered}
use Rattle.tx_core.specs.declared.event.Outcome.{Outcome}
use Rattle.tx_journal.specs.Known.{Known}
use Rattle.tx_client.specs.Calls.{Records, Seated}
use Rattle.tx_steps.specs.declared.delivery.Delivery.TheVariants as delivery
use Rattle.tx_steps.specs.declared.op.Op.TheVariants as op
use Rattle.tx_steps.specs.declared.step.Step.{Step}
use Rattle.tx_steps.specs.declared.step.Step.TheVariants as step
use Rattle.tx_steps.specs.Steps.{Text}
use Rattle.tx_reply.specs.declared.reply.ScriptReply.{ScriptReply}
use Rattle.tx_reply.specs.declared.reply.ScriptReply.TheVariants as reply
use Rattle.tx_store.specs.Stores.{Replies}
use Rattle.tx_ops.specs.Calls.{Said}
use Rattle.tx_engine.specs.Semantics.{EngineState}
use Rattle.tx_transfer.specs.declared.plain_reply.PlainReply.{PlainReply}
use Rattle.tx_transfer.specs.Replies.{said_of}
use Rattle.tx_workload.specs.declared.reply.LineAnswer.TheVariants.{Plain, Ended}
use Rattle.tx_run.specs.Played.{Makes, Turns, free, live}
use Rattle.tx_alone.specs.Ways.{CountsAnswers, IsAlone, MakesBy}
use Rattle.tx_alone.specs.Turns.{AnyMinimum, LeastMinimum, IsFree, IsLive, IsStepOf, IsTurn, IsTwoPhase, MakesAlone, with_begun, with_gone, with_live}
use Rattle.tx_alone.proofs.CountedWalks.{step_counts}
use Rattle.tx_alone.proofs.LifeTurns.{begin_turn, finish_turn, open_turn, stop_turn}
use Rattle.tx_alone.proofs.StepTurns.{any_turn, least_turn}

module _ (bounds : List Key) (name : Text) where
  -- what a session makes of a step of a run it makes over a store
  pub made_by_way : (what : Step Text) (old new : Seated) (said : Said) → IsStepOf name what
      → Makes bounds what old said new → MakesBy (Replies {S = Unit {0}}) bounds what old tt said new tt
  made_by_way (step.Begin n) old new said may (is, same) = (is, same, refl)
  made_by_way (step.Act n (op.Put key value)) old new said may (resolver, after, acts) = (acts.0, refl)
  made_by_way (step.Act n (op.Insert key value)) old new said may (resolver, after, acts) = (acts.0, refl)
  made_by_way (step.Act n (op.Delete key)) old new said may (resolver, after, acts) = (acts.0, refl)
  made_by_way (step.Act n (op.Lock key)) old new said may (resolver, after, acts) = (acts.0, refl)
  made_by_way (step.Act n (op.Declare mode ttl most)) old new said may (resolver, after, acts) = (acts.0, refl)
  made_by_way (step.Act n op.Draw) old new said may (resolver, after, acts) = (acts.0, refl)
  made_by_way (step.Act n op.Finish) old new said may made = absurd may
  made_by_way (step.Act n op.Stop) old new said may made = absurd may
  made_by_way (step.Act n (op.Resolve now)) old new said may made = absurd may
  made_by_way (step.Send n what delivery.Taken) old new said may made = made
  made_by_way (step.Send n what delivery.Lost) old new said may made = absurd may
  made_by_way (step.Send n what delivery.Unanswered) old new said may made = absurd may
  made_by_way (step.Send n what delivery.Repeated) old new said may made = absurd may
  made_by_way (step.Send n what (delivery.Held held)) old new said may made = absurd may
  made_by_way (step.Deliver n) old new said may made = absurd may
  made_by_way (step.Read key at) old new said may made = absurd may
  made_by_way (step.Versions key) old new said may made = absurd may
  made_by_way (step.Tick ticks) old new said may made = absurd may
  made_by_way (step.Gc safe) old new said may made = absurd may
  made_by_way (step.Seed key value) old new said may made = absurd may
  made_by_way (step.Transfer n what) old new said may made = absurd may

  -- and the other way round
  pub way_makes : (what : Step Text) (old new : Seated) (said : Said) → IsStepOf name what
      → MakesBy (Replies {S = Unit {0}}) bounds what old tt said new tt → Makes bounds what old said new
  way_makes (step.Begin n) old new said may (is, same, there) = (is, same)
  way_makes (step.Act n (op.Put key value)) old new said may (does, there) = (old.seat, old.seat, (does, refl))
  way_makes (step.Act n (op.Insert key value)) old new said may (does, there) = (old.seat, old.seat, (does, refl))
  way_makes (step.Act n (op.Delete key)) old new said may (does, there) = (old.seat, old.seat, (does, refl))
  way_makes (step.Act n (op.Lock key)) old new said may (does, there) = (old.seat, old.seat, (does, refl))
  way_makes (step.Act n (op.Declare mode ttl most)) old new said may (does, there) = (old.seat, old.seat, (does, refl))
  way_makes (step.Act n op.Draw) old new said may (does, there) = (old.seat, old.seat, (does, refl))
  way_makes (step.Act n op.Finish) old new said may made = absurd may
  way_makes (step.Act n op.Stop) old new said may made = absurd may
  way_makes (step.Act n (op.Resolve now)) old new said may made = absurd may
  way_makes (step.Send n what delivery.Taken) old new said may made = made
  way_makes (step.Send n what delivery.Lost) old new said may made = absurd may
  way_makes (step.Send n what delivery.Unanswered) old new said may made = absurd may
  way_makes (step.Send n what delivery.Repeated) old new said may made = absurd may
  way_makes (step.Send n what (delivery.Held held)) old new said may made = absurd may
  way_makes (step.Deliver n) old new said may made = absurd may
  way_makes (step.Read key at) old new said may made = absurd may
  way_makes (step.Versions key) old new said may made = absurd may
  way_makes (step.Tick ticks) old new said may made = absurd may
  way_makes (step.Gc safe) old new said may made = absurd may
  way_makes (step.Seed key value) old new said may made = absurd may
  way_makes (step.Transfer n what) old new said may made = absurd may

  -- the line of a live session that stays live made its step
  line_makes : (what : Step Text) (old new : Seated) (answer : Result PlainReply Cause) → IsStepOf name what
      → Turns bounds what (live old) (Plain answer) (live new) → Makes bounds what old (said_of answer) new
  line_makes (step.Begin n) old new (Ok p) may turns = turns.1
  line_makes (step.Begin n) old new (Err why) may turns = turns.1
  line_makes (step.Act n (op.Put key value)) old new (Ok p) may turns = turns.1
  line_makes (step.Act n (op.Put key value)) old new (Err why) may turns = turns.1
  line_makes (step.Act n (op.Insert key value)) old new (Ok p) may turns = turns.1
  line_makes (step.Act n (op.Insert key value)) old new (Err why) may turns = turns.1
  line_makes (step.Act n (op.Delete key)) old new (Ok p) may turns = turns.1
  line_makes (step.Act n (op.Delete key)) old new (Err why) may turns = turns.1
  line_makes (step.Act n (op.Lock key)) old new (Ok p) may turns = turns.1
  line_makes (step.Act n (op.Lock key)) old new (Err why) may turns = turns.1
  line_makes (step.Act n (op.Declare mode ttl most)) old new (Ok p) may turns = turns.1
  line_makes (step.Act n (op.Declare mode ttl most)) old new (Err why) may turns = turns.1
  line_makes (step.Act n op.Draw) old new (Ok p) may turns = turns.1
  line_makes (step.Act n op.Draw) old new (Err why) may turns = turns.1
  line_makes (step.Act n op.Finish) old new answer may turns = absurd may
  line_makes (step.Act n op.Stop) old new answer may turns = absurd may
  line_makes (step.Act n (op.Resolve now)) old new answer may turns = absurd may
  line_makes (step.Send n what delivery.Taken) old new (Ok p) may turns = turns.1
  line_makes (step.Send n what delivery.Taken) old new (Err why) may turns = turns.1
  line_makes (step.Send n what delivery.Lost) old new answer may turns = absurd may
  line_makes (step.Send n what delivery.Unanswered) old new answer may turns = absurd may
  line_makes (step.Send n what delivery.Repeated) old new answer may turns = absurd may
  line_makes (step.Send n what (delivery.Held held)) old new answer may turns = absurd may
  line_makes (step.Deliver n) old new answer may turns = absurd may
  line_makes (step.Read key at) old new answer may turns = absurd may
  line_makes (step.Versions key) old new answer may turns = absurd may
  line_makes (step.Tick ticks) old new answer may turns = absurd may
  line_makes (step.Gc safe) old new answer may turns = absurd may
  line_makes (step.Seed key value) old new answer may turns = absurd may
  line_makes (step.Transfer n what) old new answer may turns = absurd may

  module _ (e : EngineState) (k : ℕ) where
    -- where nobody else acted, it is the turn
    pub line_turn : (what : Step Text) (old new : Seated) (answer : Result PlainReply Cause) → IsStepOf name what
        → IsLive bounds e name k old → 0 < old.seat.ticks → Turns bounds what (live old) (Plain answer) (live new)
        → (answered : ℕ) × MakesBy CountsAnswers bounds what old 0 (said_of answer) new answered
        × (IsAlone old.seat answered new.seat → IsTurn AnyMinimum bounds what e (said_of answer) (with_live e k new))
        × (IsAlone old.seat answered new.seat → IsTwoPhase what old.state
        → IsTurn LeastMinimum bounds what e (said_of answer) (with_live e k new))
    line_turn what old new answer may live_at ticks turns =
        let counted = step_counts bounds what old new (said_of answer)
        (made_by_way what old new (said_of answer) may (line_makes what old new answer may turns)) in
        let made : IsAlone old.seat counted.0 new.seat → MakesAlone bounds e name k what old (said_of answer) new =
        λ alone. record { live = live_at; ticks = ticks; answered = counted.0; makes = counted.1; alone = alone } in (
          counted.0,
          counted.1,
          λ alone. any_turn bounds e name k what old new (said_of answer) may (made alone),
          λ alone two. least_turn bounds e name k what old new (said_of answer) may two (made alone),
        )

    pub begun_turn : (seat : Known) (s : Seated) (p : PlainReply) → IsFree bounds e name k seat
        → Turns bounds (step.Begin name) (free seat) (Plain (Ok p)) (live s) → IsAlone seat 0 s.seat
        → IsTurn LeastMinimum bounds (step.Begin name) e (Ok p.reply) (with_begun e name k s)
    begun_turn seat s p free_at (named, is, begun) alone =
        subst (λ (r : ScriptReply). IsTurn LeastMinimum bounds (step.Begin name) e (Ok r) (with_begun e name k s))
        (sym is) (begin_turn LeastMinimum bounds e name k seat s free_at named begun alone)

    pub ended_turn : (s : Seated) (seat : Known) (start : ℕ) (o : Outcome) → IsLive bounds e name k s
        → Turns bounds (step.Act name op.Finish) (live s) (Ended start o None) (free seat) → IsAlone s.seat 0 seat
        → IsTurn LeastMinimum bounds (step.Act name op.Finish) e (Ok (reply.Ended o)) (with_gone e name k seat)
    ended_turn s seat start o live_at (is, finish, records) alone =
        finish_turn LeastMinimum bounds e name k s seat live_at o finish
        (subst (λ (t : ℕ). Records bounds s.seat (Answered t o) seat) is records) alone

    pub fault_turn : (s : Seated) (seat : Known) (why : Cause) (next : EngineState) → IsLive bounds e name k s
        → Turns bounds (step.Act name op.Finish) (live s) (Plain (Err why)) (free seat)
        → IsTurn LeastMinimum bounds (step.Act name op.Finish) e (Err why) next
    fault_turn s seat why next live_at (is, none, left) =
        subst (λ (c : Cause). IsTurn LeastMinimum bounds (step.Act name op.Finish) e (Err c) next) (sym is)
        (open_turn LeastMinimum bounds e name k s next live_at none)

    pub stopped_turn : (s : Seated) (seat : Known) (p : PlainReply) → IsLive bounds e name k s
        → Turns bounds (step.Act name op.Stop) (live s) (Plain (Ok p)) (free seat) → IsAlone s.seat 0 seat
        → IsTurn LeastMinimum bounds (step.Act name op.Stop) e (Ok p.reply) (with_gone e name k seat)
    stopped_turn s seat p live_at (is, left) alone =
        let turns = stop_turn LeastMinimum bounds e name k s seat live_at left alone in
        let next = with_gone e name k seat in
        subst (λ (r : ScriptReply). IsTurn LeastMinimum bounds (step.Act name op.Stop) e (Ok r) next) (sym is) turns
