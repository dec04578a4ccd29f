-- What the steps of a cycle say.
use Rattle.std.specs.Prelude.{◌≡◌, ◌≢◌, ℕ, ◌+◌, ◌-◌, ◌<◌, ◌≤◌, List, length, Contains, Option, Some, None, IsTrue, slice_index_or}
use Rattle.tx_verdict.specs.declared.question.Level.{Level}
use Rattle.tx_verdict.specs.declared.question.Level.TheVariants.{Snapshot, Serializable}
use Rattle.tx_recording.specs.declared.recording.Orders.{Orders}
use Rattle.tx_recording.specs.declared.recording.Recording.{Recording}
use Rattle.tx_recording.specs.Explanations.{IsSession, IsEarlier}
use Rattle.tx_history.specs.declared.dependency.DependencyKind.{DependencyKind}
use Rattle.tx_history.specs.declared.dependency.DependencyKind.TheVariants as kind
use Rattle.tx_verdict.specs.declared.verdict.EdgeKind.{EdgeKind}
use Rattle.tx_verdict.specs.declared.verdict.EdgeKind.TheVariants.{Ww, Wr, Rw, So, Rt}
use Rattle.tx_verdict.specs.declared.verdict.CycleStep.{CycleStep}
use Rattle.tx_verdict.specs.declared.verdict.Beside.{Beside}
use Rattle.tx_verdict.specs.declared.verdict.Beside.TheVariants.{Nothing, Processes, Clock}
use Rattle.tx_verdict.specs.Reasons.{SawOf, HasWritten, IsBehind, HasMissed}

-- Both wrote k, and u behind t; u saw k as t left it; u wrote k, and t did not see that; a process
-- ran u after t; t had ended when u began, which is another one.
abbrev pub IsEdgeOf : Recording → Orders → EdgeKind → ℕ → ℕ → Option ℕ → Type 0
IsEdgeOf r orders Ww t u (Some k) = HasWritten r t k × HasWritten r u k × IsBehind r k t u
IsEdgeOf r orders Wr t u (Some k) = SawOf r u k t
IsEdgeOf r orders Rw t u (Some k) = HasWritten r u k × HasMissed r k t u
IsEdgeOf r orders So t u None = IsTrue orders.sessions × IsSession r t u
IsEdgeOf r orders Rt t u None = IsTrue orders.strict × IsEarlier r t u × (t ≢ u)
IsEdgeOf r orders _ t u _ = ⊥

-- the edge of a dependency by reads and writes
abbrev pub IsEdgeFor : DependencyKind → EdgeKind → Type 0
IsEdgeFor kind.Ww e = e ≡ Ww
IsEdgeFor kind.Wr e = e ≡ Wr
IsEdgeFor kind.Rw e = e ≡ Rw
IsEdgeFor _ e = ⊥

-- the step is so by the recording
abbrev pub IsStep : Recording → Orders → CycleStep → Type 0
IsStep r orders s = IsEdgeOf r orders s.edge s.from s.to s.key

abbrev pub AreSteps : Recording → Orders → List CycleStep → Type 0
AreSteps r orders steps = (s : CycleStep) → Contains steps s → IsStep r orders s

abbrev pub step_at : List CycleStep → ℕ → CycleStep
step_at steps i = slice_index_or steps i record { from = 0; edge = Ww; key = None; to = 0 }

-- at least one step, each of which leads to where the next begins, and the last to the first
abbrev pub AreRound : List CycleStep → Type 0
AreRound steps = (1 ≤ length steps)
    × ((i : ℕ) → i + 1 < length steps → (step_at steps i).to ≡ (step_at steps (i + 1)).from)
    × ((step_at steps (length steps - 1)).to ≡ (step_at steps 0).from)

-- no two neighbours are anti-dependencies, nor are the last and the first
abbrev pub AreApart : List CycleStep → Type 0
AreApart steps = ((i : ℕ) → i + 1 < length steps → (step_at steps i).edge ≡ Rw → (step_at steps (i + 1)).edge ≡ Rw → ⊥)
    × ((step_at steps (length steps - 1)).edge ≡ Rw → (step_at steps 0).edge ≡ Rw → ⊥)

-- each leads from one transaction to another
abbrev pub AreOfTwo : List CycleStep → Type 0
AreOfTwo steps = (s : CycleStep) → Contains steps s → s.from ≢ s.to

-- The level has no round of these steps: under snapshot isolation where no two neighbours are
-- anti-dependencies; in a serial execution always, where each joins two.
abbrev pub Forbids : Level → List CycleStep → Type 0
Forbids Snapshot steps = AreApart steps
Forbids Serializable steps = AreOfTwo steps

-- one of the steps is of that kind
abbrev pub HasStep : List CycleStep → EdgeKind → Type 0
HasStep steps e = (s : CycleStep) × Contains steps s × (s.edge ≡ e)

-- which order the steps need: that of the clock where one of them is by it, else that of processes
abbrev pub Needs : List CycleStep → Beside → Type 0
Needs steps Nothing = (HasStep steps So → ⊥) × (HasStep steps Rt → ⊥)
Needs steps Processes = HasStep steps So × (HasStep steps Rt → ⊥)
Needs steps Clock = HasStep steps Rt
