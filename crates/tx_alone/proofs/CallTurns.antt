-- What a call comes to over a store is its turn, where nobody else acted.
use Rattle.std.proofs.Common.{◌≡◌, ℕ, Bool, true, List, Option, Ok, Err, refl, sym, ap, subst}
use Rattle.tx_types.specs.declared.key.Key.{Key}
use Rattle.tx_core.specs.Histories.{History}
use Rattle.tx_client.specs.Calls.{Seated}
use Rattle.tx_client.specs.Walks.{Sends}
use Rattle.tx_steps.specs.declared.call.Call.{Call}
use Rattle.tx_steps.specs.declared.delivery.Delivery.TheVariants as deliveries
use Rattle.tx_steps.specs.Steps.{Text}
use Rattle.tx_steps.specs.declared.step.Step.TheVariants as step
use Rattle.tx_transaction.specs.Sessions.{SessionState}
use Rattle.tx_reply.specs.declared.reply.ScriptReply.{ScriptReply}
use Rattle.tx_ops.specs.Calls.{Said, call_walk}
use Rattle.tx_ops.proofs.CallEnds.{call_stops}
use Rattle.tx_engine.specs.Semantics.{EngineState, Transition, came, in_session, runs, sends_by, turn}
use Rattle.tx_alone.specs.Ways.{CountsAnswers, IsAlone}
use Rattle.tx_alone.specs.Turns.{Table, IsLive, IsTurn, TurnsBy, with_live}
use Rattle.tx_alone.proofs.ActTurns.{is_live}
use Rattle.tx_alone.proofs.CallBodies.{Suits, SuitsPrewrite, call_ask, has_one}
use Rattle.tx_alone.proofs.StoreWalks.{Runs, walk_runs}
use Rattle.tx_alone.proofs.WalkTurns.{runs_lead, turns_as}
use Rattle.tx_plan.specs.declared.body.Body.{Body}

module _ (May : Table) (bounds : List Key) (suit : (body : Body) → has_one body ≡ true → Suits May body)
    (e : EngineState) (name : Text) (k : ℕ) (old new : Seated) (live : IsLive bounds e name k old) where
  module _ (what : Call Text) where
    abbrev sending : List Bool → Transition
    sending = λ refused. sends_by refused e k old.state bounds what deliveries.Taken

    told : (reply : ScriptReply) → Runs May bounds e.network.history (call_walk bounds old.state what)
        (new.state, Ok reply) new.seat.events → TurnsBy May bounds sending (Ok reply) (with_live e k new)
    told reply run =
        let led = runs_lead May bounds (λ later next said left. (next ≡ with_live e k new) × (said ≡ reply)
        × (left ≡ later)) (call_walk bounds old.state what) e (new.state, Ok reply) new.seat.events run
        (λ x next left. came k x.0 x.1 next left) in (led.0, λ later. led.1 later later (refl, refl, refl))

    by_said : (said : Said) (made : ℕ) → SuitsPrewrite May old.state what
        → Sends CountsAnswers bounds old.seat 0 (call_walk bounds old.state what) (new.state, said) made new.seat
        → IsAlone old.seat made new.seat → TurnsBy May bounds sending said (with_live e k new)
    by_said (Ok reply) made prewrites sent alone =
        told reply (subst (λ (h : History). Runs May bounds h (call_walk bounds old.state what) (new.state, Ok reply)
        new.seat.events) (sym live.knows)
        (walk_runs May bounds (call_walk bounds old.state what) (call_ask May bounds suit old.state what prewrites)
        old.seat new.seat made (new.state, Ok reply) sent alone))
    by_said (Err cause) made prewrites sent alone = λ refused.
        ap (λ w. runs bounds deliveries.Taken refused e w (λ x next left. came k x.0 x.1 next left))
        (call_stops CountsAnswers bounds old.seat new.seat 0 made old.state new.state what cause sent).0

    pub call_turn : (said : Said) (made : ℕ) → SuitsPrewrite May old.state what
        → Sends CountsAnswers bounds old.seat 0 (call_walk bounds old.state what) (new.state, said) made new.seat
        → IsAlone old.seat made new.seat
        → IsTurn May bounds (step.Send name what deliveries.Taken) e said (with_live e k new)
    call_turn said made prewrites sent alone =
        turns_as May bounds (λ refused. turn bounds refused (step.Send name what deliveries.Taken) e) sending said
        (with_live e k new)
        (λ refused. ap (λ (o : Option (ℕ × SessionState)). in_session o (λ j s.
        sends_by refused e j s bounds what deliveries.Taken)) (is_live bounds e name k old live))
        (by_said said made prewrites sent alone)
