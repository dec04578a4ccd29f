-- Which of the machine's steps each event makes, and what a list of them says of a history.
use Rattle.std.specs.Prelude.{◌≡◌, ◌≢◌, ◌⊎◌, ◌↔◌, ℕ, List, [], ◌∷◌, ◌++◌, Some, None, Contains}
use Rattle.tx_types.specs.declared.key.Key.{Key}
use Rattle.tx_types.specs.declared.value.Value.{Value}
use Rattle.tx_types.specs.declared.mutation.Mutation.TheVariants.{Insert}
use Rattle.tx_types.specs.declared.mutation.Fate.{Fate}
use Rattle.tx_types.specs.declared.mutation.Fate.TheVariants.{Committed, Aborted}
use Rattle.tx_plan.specs.declared.body.Body.{Body}
use Rattle.tx_plan.specs.declared.body.Body.TheVariants as body
use Rattle.tx_plan.specs.declared.answer.Answer.{Answer}
use Rattle.tx_plan.specs.declared.answer.Answer.TheVariants.{Found, Nothing, Rows}
use Rattle.tx_machine.specs.Keys.{mutation_at}
use Rattle.tx_machine.specs.declared.step.Step.{Step}
use Rattle.tx_machine.specs.declared.step.Step.TheVariants as step
use Rattle.tx_machine.specs.Machine.{Open, Done, table_of}
use Rattle.tx_core.specs.declared.event.Outcome.TheVariants as outcome
use Rattle.tx_core.specs.declared.event.Event.{Event}
use Rattle.tx_core.specs.declared.event.Event.TheVariants.{Drawn, Began, Declared, Answered, Took}
use Rattle.tx_core.specs.Histories.{History, set_at}
use Rattle.tx_core.specs.Decisions.{accepted, decided}
use Rattle.tx_core.specs.Truth.{scan_read, IsTrue}

-- the event decides the transaction that started at t
pub record Decides (h : History) (e : Event) (t : ℕ) (end : Fate) : Type 0 where
  pub before : decided h t ≡ Open
  pub now : decided (e ∷ h) t ≡ Done end

-- the event puts the lock of what that transaction inserts on k: there was no value at its start
pub record LocksInsert (h : History) (e : Event) (t : ℕ) (k : Key) : Type 0 where
  pub value : Value
  pub inserts : mutation_at (set_at h t) k ≡ Some (Insert value)
  pub before : accepted h t k ≡ None
  pub now : accepted (e ∷ h) t k ≢ None

-- the read of an answer that gave a value, none or rows
abbrev pub reading : Body → Answer → List Step
reading (body.Get b) (Found v) = step.Read b.key b.at (Some v) ∷ []
reading (body.Get b) Nothing = step.Read b.key b.at None ∷ []
reading (body.Scan b) (Rows rows) = step.Scan (scan_read b rows) ∷ []
reading _ _ = []

-- The step is one of the event: a draw, a begin, a declaration and an answered fate are steps; of
-- what a region took, each read that was answered, the read of each insert's check that let its
-- lock be put, and the commit or abort of the transaction that is decided by it.
abbrev pub IsStepOf : History → Event → Step → Type 0
IsStepOf h (Drawn seat n) s = s ≡ step.Draw n
IsStepOf h (Began t) s = s ≡ step.Begin t
IsStepOf h (Declared d) s = s ≡ step.Declare d.start d.changes
IsStepOf h (Answered t (outcome.Committed c)) s = s ≡ step.Answer t (Committed c)
IsStepOf h (Answered t outcome.Aborted) s = s ≡ step.Answer t Aborted
IsStepOf h (Took x) (step.Read k r found) = Contains (reading x.body x.answer) (step.Read k r found)
    ⊎ (LocksInsert h (Took x) r k × (found ≡ None))
IsStepOf h (Took x) (step.Scan read) = Contains (reading x.body x.answer) (step.Scan read)
IsStepOf h (Took x) (step.Commit t c) = Decides h (Took x) t (Committed c)
IsStepOf h (Took x) (step.Abort t) = Decides h (Took x) t Aborted
IsStepOf h _ s = ⊥

-- The steps explain the history: they are those of its events, of each event all its own and no
-- others, above those of the events before it; and each answer is true of the machine's table after
-- the steps of its own event.
abbrev pub Explains : List Step → History → Type 0
Explains steps [] = steps ≡ []
Explains steps (e ∷ h) = (own earlier : List Step) × (steps ≡ own ++ earlier) × Explains earlier h
    × ((s : Step) → Contains own s ↔ IsStepOf h e s) × IsTrue (table_of steps) e
