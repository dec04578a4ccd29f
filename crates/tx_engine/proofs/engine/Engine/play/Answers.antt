use Rattle.std.proofs.Common.{◌≡◌, Bool, List, inl, inr, refl, ap}
use Rattle.tx_types.specs.declared.fault.Cause.TheVariants as cause
use Rattle.tx_steps.specs.Steps.{asked}
use Rattle.tx_engine.specs.Semantics.{stops, turn}
use Rattle.tx_engine.specs.Slots.{engine_state}
use Rattle.tx_engine.proofs.Engines.{step_stops}
use Rattle.tx_engine.proofs.engine.Engine.play.Goals as goal

pub returns-in-Seed : goal.returns-in-Seed
returns-in-Seed g c =
    let bounds = g.J.JournalId.bounds in
    let old = c.args.self.now in
    let halts : (later : List Bool) → turn bounds later (asked c.args.step.now) (engine_state old) ≡ stops cause.Form =
    λ later.
    elim c.in-Seed.is [
      | inl seed ↦ ap (λ s. turn bounds later (asked s) (engine_state old)) seed.2
      | inr transfer ↦ ap (λ s. turn bounds later (asked s) (engine_state old)) transfer.2
    ] in
    record { goes = step_stops bounds old old (asked c.args.step.now) cause.Form refl refl refl refl halts }
