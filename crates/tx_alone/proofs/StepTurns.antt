-- A step that is made over a store, where nobody else acted, is its turn.
use Rattle.std.proofs.Common.{◌≡◌, ℕ, true, List, sym, subst}
use Rattle.tx_types.specs.declared.key.Key.{Key}
use Rattle.tx_plan.specs.declared.body.Body.{Body}
use Rattle.tx_client.specs.Calls.{Seated}
use Rattle.tx_steps.specs.declared.delivery.Delivery.TheVariants as delivery
use Rattle.tx_steps.specs.declared.op.Op.{Op}
use Rattle.tx_steps.specs.declared.op.Op.TheVariants as op
use Rattle.tx_steps.specs.declared.step.Step.{Step}
use Rattle.tx_steps.specs.declared.step.Step.TheVariants as step
use Rattle.tx_steps.specs.Steps.{Text}
use Rattle.tx_ops.specs.Calls.{Said}
use Rattle.tx_engine.specs.Semantics.{EngineState}
use Rattle.tx_alone.specs.Ways.{IsAlone}
use Rattle.tx_alone.specs.Turns.{Table, AnyMinimum, LeastMinimum, IsStepOf, IsTurn, IsTwoPhase, MakesAlone, with_live}
use Rattle.tx_alone.proofs.ActTurns.{act_turn}
use Rattle.tx_alone.proofs.CallBodies.{Suits, SuitsPrewrite, any_prewrites, any_suits, call_suits, has_one, least_suits}
use Rattle.tx_alone.proofs.CallTurns.{call_turn}
use Rattle.tx_alone.proofs.LifeTurns.{used_turn}

-- where a step prewrites, that suits this table
abbrev SuitsStep : Table → Step Text → Seated → Type 0
SuitsStep May (step.Send name what d) s = SuitsPrewrite May s.state what
SuitsStep May _ s = Unit {0}

module _ (May : Table) (bounds : List Key) (suit : (body : Body) → has_one body ≡ true → Suits May body)
    (e : EngineState) (name : Text) (k : ℕ) (old new : Seated) (said : Said) where
  abbrev Turns : Step Text → Type 0
  Turns what = MakesAlone bounds e name k what old said new → IsTurn May bounds what e said (with_live e k new)

  act_alone : (n : Text) (what : Op Text) → IsStepOf n (step.Act n what) → n ≡ name → Turns (step.Act n what)
  act_alone n what may is made =
      subst (λ (m : Text). IsTurn May bounds (step.Act m what) e said (with_live e k new)) (sym is)
      (act_turn May bounds e name k old new made.live made.ticks (alone made) what said
      (subst (λ (m : Text). IsStepOf m (step.Act m what)) is may) made.makes.0)
    where
      alone : MakesAlone bounds e name k (step.Act n what) old said new → IsAlone old.seat 0 new.seat
      alone made = subst (λ (m : ℕ). IsAlone old.seat m new.seat) made.makes.1 made.alone

  pub step_turn : (what : Step Text) → IsStepOf name what → SuitsStep May what old → Turns what
  step_turn (step.Begin n) is suits made =
      subst (λ (x : Text × Said). IsTurn May bounds (step.Begin x.0) e x.1 (with_live e k new)) (λ i. (
        sym is i,
        sym made.makes.0 i,
      )) (used_turn May bounds e name k old (with_live e k new) made.live)
  step_turn (step.Act n (op.Put key value)) is suits made = act_alone n (op.Put key value) (λ i. n) is made
  step_turn (step.Act n (op.Insert key value)) is suits made = act_alone n (op.Insert key value) (λ i. n) is made
  step_turn (step.Act n (op.Delete key)) is suits made = act_alone n (op.Delete key) (λ i. n) is made
  step_turn (step.Act n (op.Lock key)) is suits made = act_alone n (op.Lock key) (λ i. n) is made
  step_turn (step.Act n (op.Declare mode ttl most)) is suits made =
      act_alone n (op.Declare mode ttl most) (λ i. n) is made
  step_turn (step.Act n op.Draw) is suits made = act_alone n op.Draw (λ i. n) is made
  step_turn (step.Act n op.Finish) is suits made = absurd is
  step_turn (step.Act n op.Stop) is suits made = absurd is
  step_turn (step.Act n (op.Resolve now)) is suits made = absurd is
  step_turn (step.Send n what delivery.Taken) is suits made =
      subst (λ (m : Text). IsTurn May bounds (step.Send m what delivery.Taken) e said (with_live e k new)) (sym is)
      (call_turn May bounds suit e name k old new made.live what said made.answered suits made.makes made.alone)
  step_turn (step.Send n what delivery.Lost) is suits made = absurd is
  step_turn (step.Send n what delivery.Unanswered) is suits made = absurd is
  step_turn (step.Send n what delivery.Repeated) is suits made = absurd is
  step_turn (step.Send n what (delivery.Held held)) is suits made = absurd is
  step_turn (step.Deliver n) is suits made = absurd is
  step_turn (step.Read key at) is suits made = absurd is
  step_turn (step.Versions key) is suits made = absurd is
  step_turn (step.Tick ticks) is suits made = absurd is
  step_turn (step.Gc safe) is suits made = absurd is
  step_turn (step.Seed key value) is suits made = absurd is
  step_turn (step.Transfer n what) is suits made = absurd is

any_step : (what : Step Text) (s : Seated) → SuitsStep AnyMinimum what s
any_step (step.Send name what d) s = any_prewrites s.state what
any_step _ s = tt

least_step : (what : Step Text) (s : Seated) → IsTwoPhase what s.state → SuitsStep LeastMinimum what s
least_step (step.Send name what d) s two = call_suits name what d s.state two
least_step _ s two = tt

pub any_turn : (bounds : List Key) (e : EngineState) (name : Text) (k : ℕ) (what : Step Text) (old new : Seated)
    (said : Said) → IsStepOf name what → MakesAlone bounds e name k what old said new
    → IsTurn AnyMinimum bounds what e said (with_live e k new)
any_turn bounds e name k what old new said is made =
    step_turn AnyMinimum bounds (λ body one. any_suits body) e name k old new said what is (any_step what old) made

pub least_turn : (bounds : List Key) (e : EngineState) (name : Text) (k : ℕ) (what : Step Text) (old new : Seated)
    (said : Said) → IsStepOf name what → IsTwoPhase what old.state → MakesAlone bounds e name k what old said new
    → IsTurn LeastMinimum bounds what e said (with_live e k new)
least_turn bounds e name k what old new said is two made =
    step_turn LeastMinimum bounds least_suits e name k old new said what is (least_step what old two) made
