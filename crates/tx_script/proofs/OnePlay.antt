-- Lines have one play where its events are a world run: wherever a region is asked, a beginning of
-- them has happened.
use Rattle.std.proofs.Common.{◌≡◌, ◌==◌, ◌&&◌, ℕ, ◌+◌, Bool, true, false, cond, List, [], ◌∷◌, length, Option, Some, None, is_some, Result, Ok, Err, sym, ap, subst, ◌∙◌}
use Rattle.serde_json.specs.Data.{Data}
use Rattle.tx_types.specs.declared.fault.Cause.{Cause}
use Rattle.tx_types.specs.declared.key.Key.{Key}
use Rattle.tx_core.specs.Histories.{History, Begins}
use Rattle.tx_core.specs.Worlds.{IsWorldRun}
use Rattle.tx_core.proofs.seats.Beginnings.{begins_all}
use Rattle.tx_reply.specs.declared.reply.ScriptReply.TheVariants.{Regions}
use Rattle.tx_reply.specs.Replies.{reply_words}
use Rattle.tx_steps.specs.declared.program.Program.TheVariants.{Simulate}
use Rattle.tx_steps.specs.declared.step.Step.{Step}
use Rattle.tx_steps.specs.Steps.{Text}
use Rattle.tx_steps.specs.Lines.{data_said, step_in, bounds_in}
use Rattle.tx_engine.specs.Semantics.{EngineState, Transition, goes}
use Rattle.tx_engine.proofs.AllGrow.{AllGrow, turn_grows, leads_begin}
use Rattle.tx_engine.proofs.OnePlay.{one_lead}
use Rattle.tx_script.specs.Play.{step_turn, said_turn, line_turn, Played, before, faulted, Plays}

module _ (bounds : List Key) where
  module _ (engine : EngineState) (refused : List Bool) where
    abbrev h : History
    h = engine.network.history

    either : (b : Bool) (t u : Transition) → AllGrow h h t → AllGrow h h u → AllGrow h h (cond b t u)
    either true t u x y = x
    either false t u x y = y

    step_grows : (o : Option (Step Text)) → AllGrow h h (step_turn bounds refused o engine)
    step_grows None = begins_all h
    step_grows (Some step) = turn_grows bounds engine refused step

    said_grows : (number : ℕ) (r : Result Data Cause) → AllGrow h h (said_turn bounds refused number r engine)
    said_grows number (Ok d) = either ((number == 1)
        && is_some (bounds_in d)) (goes engine (Regions (length bounds
        + 1)) refused) (step_turn bounds refused (step_in Simulate d) engine) (begins_all h)
        (step_grows (step_in Simulate d))
    said_grows number (Err c) = begins_all h

    pub line_grows : (number : ℕ) (line : List ℕ) → AllGrow engine.network.history engine.network.history
        (line_turn bounds refused number line engine)
    line_grows number line = said_grows number (data_said number line)

  pub plays_begin : (lines : List (List ℕ)) (engine : EngineState) (number : ℕ) (refused : List Bool) (p : Played)
      → Plays bounds engine number refused lines p → Begins engine.network.history p.history
  plays_begin [] engine number refused p plays = subst (λ (q : Played). Begins engine.network.history q.history)
      (sym plays) (begins_all engine.network.history)
  plays_begin (line ∷ lines) engine number refused p plays =
      leads_begin bounds _ _ engine.network.history engine.network.history p.history
      (λ next said left x. subst (λ (q : Played). Begins next.network.history q.history) (sym x.2)
      (plays_begin lines next (number + 1) left x.0 x.1))
      (λ c is. subst (λ (q : Played). Begins engine.network.history q.history) (sym is)
      (begins_all engine.network.history))
      (line_turn bounds refused (number + 1) line engine) (line_grows engine refused (number + 1) line) plays

  pub one_play : (lines : List (List ℕ)) (engine : EngineState) (number : ℕ) (refused : List Bool) (p q : Played)
      → IsWorldRun bounds p.history → Plays bounds engine number refused lines p
      → Plays bounds engine number refused lines q → q ≡ p
  one_play [] engine number refused p q run is also = also ∙ sym is
  one_play (line ∷ lines) engine number refused p q run x y =
      one_lead bounds _ _ (λ c. p ≡ faulted engine (number + 1) c) (λ c. q ≡ faulted engine (number + 1) c) (q
      ≡ p) engine.network.history engine.network.history p.history run
      (λ next said left z. subst (λ (r : Played). Begins next.network.history r.history) (sym z.2)
      (plays_begin lines next (number + 1) left z.0 z.1))
      (λ c is. subst (λ (r : Played). Begins engine.network.history r.history) (sym is)
      (begins_all engine.network.history))
      (λ next said left z w. w.2 ∙ (ap (before (
        number + 1,
        reply_words said,
      )) (one_play lines next (number
      + 1) left z.0 w.0 (subst (λ (r : Played). IsWorldRun bounds r.history) z.2 run) z.1 w.1) ∙ sym z.2))
      (λ c is also. also ∙ sym is)
      (line_turn bounds refused (number + 1) line engine) (line_grows engine refused (number + 1) line) x y
