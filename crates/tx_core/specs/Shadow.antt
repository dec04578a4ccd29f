-- The steps of the one-step machine that are read off a history: those that explain a world run.
use Rattle.std.specs.Prelude.{ℕ, List, [], ◌∷◌, ◌++◌, Option, Some, None}
use Rattle.tx_types.specs.declared.mutation.Fate.TheVariants.{Committed, Aborted}
use Rattle.tx_plan.specs.declared.body.Prewrite.{Prewrite}
use Rattle.tx_plan.specs.declared.body.Body.{Body}
use Rattle.tx_plan.specs.declared.body.Body.TheVariants as body
use Rattle.tx_plan.specs.Answers.{start_in}
use Rattle.tx_plan.specs.cases.Prewrite.{check_by}
use Rattle.tx_machine.specs.declared.step.Step.{Step}
use Rattle.tx_machine.specs.declared.step.Step.TheVariants as step
use Rattle.tx_machine.specs.Machine.{State, Open, Done, table_of}
use Rattle.tx_core.specs.declared.event.Outcome.{Outcome}
use Rattle.tx_core.specs.declared.event.Outcome.TheVariants as outcome
use Rattle.tx_core.specs.declared.event.Taken.{Taken}
use Rattle.tx_core.specs.declared.event.Event.TheVariants.{Drawn, Began, Declared, Answered, Stopped, Took}
use Rattle.tx_core.specs.Histories.{History}
use Rattle.tx_core.specs.Decisions.{Effect, Puts, effect_in, decided}
use Rattle.tx_core.specs.Truth.{IsTrue}
use Rattle.tx_core.specs.EventSteps.{reading}

-- the step at which a transaction is decided: what was decided of it before, and what is now
abbrev pub deciding : ℕ → State → State → List Step
deciding t Open (Done (Committed c)) = step.Commit t c ∷ []
deciding t Open (Done Aborted) = step.Abort t ∷ []
deciding t _ _ = []

abbrev pub deciding_in : History → Taken → Option ℕ → List Step
deciding_in h x None = []
deciding_in h x (Some t) = deciding t (decided h t) (decided (Took x ∷ h) t)

-- the read that the check of an insert makes: where its lock was put, there was no value at its
-- start
abbrev pub checked : Prewrite → Option ℕ → List Step
checked b None = []
checked b (Some at) = step.Read b.key at None ∷ []

abbrev pub checking : Body → Effect → List Step
checking (body.Prewrite b) (Puts key lock) = checked b (check_by b.mutation b.start)
checking _ _ = []

-- the answer of a session that knows the fate of its transaction
abbrev pub answering : ℕ → Outcome → List Step
answering t (outcome.Committed c) = step.Answer t (Committed c) ∷ []
answering t outcome.Aborted = step.Answer t Aborted ∷ []
answering t _ = []

-- the machine's steps, newest first: a draw, a begin, a declaration and an answer where they stand,
-- a commit or an abort at the event that decides it, each answered read, and before a commit at the
-- same event the read of an insert's check
abbrev pub shadow : History → List Step
shadow [] = []
shadow (Drawn seat n ∷ h) = step.Draw n ∷ shadow h
shadow (Began t ∷ h) = step.Begin t ∷ shadow h
shadow (Declared d ∷ h) = step.Declare d.start d.changes ∷ shadow h
shadow (Answered t o ∷ h) = answering t o ++ shadow h
shadow (Stopped seat ∷ h) = shadow h
shadow (Took x ∷ h) = deciding_in h x (start_in x.body)
    ++ (checking x.body (effect_in h x) ++ (reading x.body x.answer ++ shadow h))

-- each answer is true where it stands: of the table after the steps that are read off its own event
abbrev pub AllTrue : History → Type 0
AllTrue [] = Unit {0}
AllTrue (e ∷ h) = AllTrue h × IsTrue (table_of (shadow (e ∷ h))) e
