-- How far the session is of a step that is out of order.
use Rattle.std.specs.Prelude.{◌≡◌, ℕ, ◌+◌, List, ◌∷◌, ◌++◌, Bool, Option, Some, None, option_and_then, IfSome}
use Rattle.serde_json.specs.Data.{Items}
use Rattle.tx_types.specs.declared.fault.Cause.TheVariants.{Order}
use Rattle.tx_types.specs.declared.key.Key.{Key}
use Rattle.tx_steps.specs.declared.step.Step.{Step}
use Rattle.tx_steps.specs.Lines.{data_said}
use Rattle.tx_steps.specs.Steps.{Text}
use Rattle.tx_engine.specs.Semantics.{EngineState, stops}
use Rattle.tx_engine.specs.Slots.{Held, engine_state}
use Rattle.tx_engine.specs.Stages.{stage_at}
use Rattle.tx_ops.specs.declared.stage.SessionStage.{SessionStage}
use Rattle.tx_ops.specs.Stages.{ending_name}
use Rattle.tx_script.specs.Play.{line_turn, step_of}
use Rattle.tx_script.specs.Players.{SoFar}

-- how far the session is of a step that draws, commits or aborts, where it is live
abbrev pub step_stage : EngineState → Option (Step Text) → Option SessionStage
step_stage engine o = option_and_then (stage_at engine) (option_and_then ending_name o)

-- how far that session of the step is that a line says
abbrev pub line_stage : EngineState → ℕ → List ℕ → Option SessionStage
line_stage engine number line = step_stage engine (step_of (data_said number line))

module _ (bounds : List Key) (lines : List (List ℕ)) where
  -- The first lines lead to an engine state where the next line is out of order, and there the
  -- session of its step is so far.
  pub record IsOutOfOrder (found : SessionStage) : Type 0 where
    pub first : List (List ℕ)
    pub line : List ℕ
    pub rest : List (List ℕ)
    pub done : List (ℕ × Items)
    pub number : ℕ
    pub engine : Held
    pub split : lines ≡ first ++ line ∷ rest
    pub so_far : SoFar bounds first done number engine
    pub halts : (refused : List Bool)
        → line_turn bounds refused (number + 1) line (engine_state engine) ≡ stops Order
    pub stage : line_stage (engine_state engine) (number + 1) line ≡ Some found

  -- what is noted of the session, where it is
  abbrev pub NotesStage : Option SessionStage → Type 0
  NotesStage stage = IfSome stage IsOutOfOrder
