-- How far the session of a name is.
use Rattle.std.specs.Prelude.{List, ℕ, Option, option_map}
use Rattle.tx_ops.specs.Stages.{stage_of}
use Rattle.tx_ops.specs.declared.stage.SessionStage.{SessionStage}
use Rattle.tx_engine.specs.Semantics.{EngineState, live_at}

-- how far the live session of a name is
abbrev pub stage_at : EngineState → List ℕ → Option SessionStage
stage_at engine name = option_map (λ s. stage_of s.1) (live_at engine name)
