-- How far a session is: what is so of it where a step may not be its next.
use Rattle.std.specs.Prelude.{Option, Some, None, is_some, if◌then◌else◌}
use Rattle.tx_types.specs.declared.mutation.Fate.{Fate}
use Rattle.tx_types.specs.declared.mutation.Fate.TheVariants as fate
use Rattle.tx_steps.specs.declared.call.Call.TheVariants as call
use Rattle.tx_steps.specs.declared.op.Op.TheVariants as op
use Rattle.tx_steps.specs.declared.step.Step.{Step}
use Rattle.tx_steps.specs.declared.step.Step.TheVariants as step
use Rattle.tx_steps.specs.Steps.{Text}
use Rattle.tx_transaction.specs.declared.state.Phase.TheVariants as phase
use Rattle.tx_transaction.specs.Buffers.{first_index, has_two_phase_lock, not_empty}
use Rattle.tx_transaction.specs.Sessions.{SessionState, is_declared}
use Rattle.tx_ops.specs.declared.stage.SessionStage.{SessionStage}
use Rattle.tx_ops.specs.declared.stage.SessionStage.TheVariants.{Open, Empty, Locking, Promised, Locked, Drawn, Committed, Aborted}

-- how far it is where its keys are declared and nothing is decided
abbrev pub undecided_stage : SessionState → SessionStage
undecided_stage s = if is_some s.drawn then Drawn
    else (if is_some (first_index phase.Prewrite s.buffer) then Locking
    else (if has_two_phase_lock s.buffer then Locked else Promised))

-- how far it is where its keys are declared, by what it knows of its fate
abbrev pub stage_by : SessionState → Option Fate → SessionStage
stage_by s None = undecided_stage s
stage_by s (Some (fate.Committed c)) = Committed
stage_by s (Some fate.Aborted) = Aborted

-- how far it is
abbrev pub stage_of : SessionState → SessionStage
stage_of s = if is_declared s then (if not_empty s.buffer then stage_by s s.decision else Empty) else Open

-- the session for which a step draws a commit timestamp, or which it commits or aborts
abbrev pub ending_name : Step Text → Option Text
ending_name (step.Act name op.Draw) = Some name
ending_name (step.Send name call.Commit d) = Some name
ending_name (step.Send name call.Abort d) = Some name
ending_name _ = None
