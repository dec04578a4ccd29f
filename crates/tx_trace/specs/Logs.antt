-- What is kept of a history, and how each event changes it.
-- Callers see of it what `Traces.antt` says.
use Rattle.std.specs.Prelude.{◌≡◌, ◌≢◌, ◌⊎◌, ℕ, ◌==◌, ◌&&◌, Bool, true, false, cond, ◌++◌, List, [], ◌∷◌, reverse, Option, Some, None, bytes_eq}
use Rattle.std.specs.BTreeMap as tree
use Rattle.std.specs.BTreeSet as sorted
use Rattle.std.specs.Cmp.Lexicographic.{slice_cmp}
use Rattle.std.specs.declared.cmp.Ordering.{Ordering}
use Rattle.std.specs.Ordering.{ordering_then, nat_cmp}
use Rattle.tx_types.specs.declared.key.Key.{Key}
use Rattle.tx_types.specs.declared.value.Value.{Value}
use Rattle.tx_types.specs.declared.mutation.Mutation.TheVariants.{Insert}
use Rattle.tx_types.specs.declared.mutation.Fate.{Fate}
use Rattle.tx_types.specs.declared.mutation.Fate.TheVariants.{Committed, Aborted}
use Rattle.tx_plan.specs.declared.body.Prewrite.{Prewrite}
use Rattle.tx_plan.specs.declared.answer.Answer.{Answer}
use Rattle.tx_plan.specs.declared.answer.Answer.TheVariants.{Prewritten}
use Rattle.tx_plan.specs.cases.Prewrite.{check_by}
use Rattle.tx_machine.specs.declared.step.Step.{Step}
use Rattle.tx_machine.specs.declared.step.Step.TheVariants as step
use Rattle.tx_machine.specs.Keys.{mutation_at}
use Rattle.tx_machine.specs.Machine.{State, Open, Done}
use Rattle.tx_core.specs.declared.event.Declaration.{Declaration}
use Rattle.tx_core.specs.declared.event.Event.{Event}
use Rattle.tx_core.specs.Histories.{History, declared}
use Rattle.tx_core.specs.Decisions.{accepted, decided, fate_in}
use Rattle.tx_core.specs.Worlds.{IsWorldRun}
use Rattle.tx_core.specs.Shadow.{shadow}
use Rattle.tx_trace.specs.declared.pending.Pending.{Pending}
use Rattle.tx_trace.specs.declared.log.TraceLog.{TraceLog}
use Rattle.tx_trace.specs.Pending.{Accepted, Awaits, PendingByStart, IsFirst, AcceptsIn}

-- a declared transaction that is not decided is kept with what it waits for, one that is
-- decided is not kept
abbrev pub Stands : State → Declaration → Accepted → Option Pending → Type 0
Stands (Done end) d accepted kept = kept ≡ None
Stands Open d accepted None = ⊥
Stands Open d accepted (Some pending) = Awaits d accepted pending

-- the steps are those of the machine that are read off the history, newest first, and each
-- transaction stands as it does there
pub record Follows (h : History) (steps : List Step) (kept : PendingByStart) : Type 0 where
  pub shadows : steps ≡ shadow h
  pub pending : (t : ℕ) (d : Declaration) → declared h t ≡ Some d → Stands (decided h t) d (accepted h t) (kept t)

-- whether a key was checked for a transaction, by its start
abbrev pub Checked : Type 0
Checked = ℕ → Key → Bool

-- What was checked was accepted, and each key that is inserted and was accepted was checked: an
-- insert is checked where it is first accepted, whatever is decided of its transaction.
pub record Tracks (h : History) (checked : Checked) : Type 0 where
  pub accepts : (t : ℕ) (k : Key) → checked t k ≡ true → accepted h t k ≢ None
  pub inserts : (t : ℕ) (d : Declaration) (k : Key) (v : Value) → declared h t ≡ Some d
      → mutation_at d.changes k ≡ Some (Insert v) → accepted h t k ≢ None → checked t k ≡ true

-- the steps, newest first
abbrev pub steps_of : TraceLog → List Step
steps_of log = reverse log.steps.items

-- what it keeps
abbrev pub kept_in : TraceLog → PendingByStart
kept_in log = tree.get nat_cmp log.pending

-- the order of the pairs of a start and a key
abbrev pub by_start : ℕ × Key → ℕ × Key → Ordering
by_start p q = ordering_then (nat_cmp p.0 q.0) (slice_cmp nat_cmp p.1 q.1)

-- which keys it has as checked
abbrev pub checked_in : TraceLog → Checked
checked_in log t k = sorted.contains by_start log.checked (t, k)

-- its steps and what it keeps are of the history
abbrev pub HasSteps : History → TraceLog → Type 0
HasSteps h log = Follows h (steps_of log) (kept_in log)

-- The log is of the history: it has just the steps of the machine that are read off it.
abbrev pub IsLogOf : History → TraceLog → Type 0
IsLogOf h log = HasSteps h log × Tracks h (checked_in log)

-- The log goes on with an event, whatever run it is of.
abbrev pub LogGoesOn : TraceLog → Event → TraceLog → Type 0
LogGoesOn old e new = (bounds : List Key) (h : History) → IsWorldRun bounds (e ∷ h) → IsLogOf h old
    → IsLogOf (e ∷ h) new

-- the log is of the histories that it was of
abbrev pub Stays : TraceLog → TraceLog → Type 0
Stays old new = (h : History) → IsLogOf h old → IsLogOf h new

-- ---- parts of an event

-- the step at which a transaction is decided
abbrev pub ended : ℕ → Fate → Step
ended t (Committed c) = step.Commit t c
ended t Aborted = step.Abort t

-- some steps are added, and what is kept is the same
pub record AddsSteps (more : List Step) (old new : TraceLog) : Type 0 where
  pub steps : steps_of new ≡ more ++ steps_of old
  pub same : (t : ℕ) → kept_in new t ≡ kept_in old t
  pub still : (t : ℕ) (k : Key) → checked_in new t k ≡ checked_in old t k

-- a transaction that is kept is decided: its step is added, and it is kept no more
pub record Decides (t : ℕ) (end : Fate) (old new : TraceLog) : Type 0 where
  pub was : Pending
  pub before : kept_in old t ≡ Some was
  pub steps : steps_of new ≡ ended t end ∷ steps_of old
  pub gone : (q : ℕ) → kept_in new q ≡ cond (t == q) None (kept_in old q)
  pub still : (q : ℕ) (k : Key) → checked_in new q k ≡ checked_in old q k

-- a transaction is decided, if it is kept
abbrev pub DecidesKept : ℕ → Fate → TraceLog → TraceLog → Type 0
DecidesKept t end old new = ((kept_in old t ≡ None) × AddsSteps [] old new) ⊎ Decides t end old new

-- an answer that tells a fate decides
abbrev pub TellsFate : ℕ → Option Fate → TraceLog → TraceLog → Type 0
TellsFate t None old new = AddsSteps [] old new
TellsFate t (Some end) old new = DecidesKept t end old new

-- a transaction is committed, where that is completed: its step is added, and it is kept no more
abbrev pub Closes : ℕ → List Step → PendingByStart → TraceLog → Option ℕ → Type 0
Closes t steps between new None = (steps_of new ≡ steps) × ((q : ℕ) → kept_in new q ≡ between q)
Closes t steps between new (Some c) = (steps_of new ≡ step.Commit t c ∷ steps)
    × ((q : ℕ) → kept_in new q ≡ cond (t == q) None (between q))

-- A key of a transaction is locked with the minimum m, after these steps and where these are kept:
-- where the transaction is kept, the key is accepted, and the last key commits it.
pub record Locked (t : ℕ) (k : Key) (m : ℕ) (steps : List Step) (kept : PendingByStart)
    (new : TraceLog) : Type 0 where
  pub between : PendingByStart
  pub commit : Option ℕ
  pub accepts : AcceptsIn t k m kept between commit
  pub closes : Closes t steps between new commit

-- the read of an insert's check is added, and its key is checked from now on
pub record AddsCheck (b : Prewrite) (old new : TraceLog) : Type 0 where
  pub inserts : check_by b.mutation b.start ≡ Some b.start
  pub first : checked_in old b.start b.key ≡ false
  pub steps : steps_of new ≡ step.Read b.key b.start None ∷ steps_of old
  pub same : (t : ℕ) → kept_in new t ≡ kept_in old t
  pub keys : (t : ℕ) (k : Key) → checked_in new t k
      ≡ cond ((b.start == t) && bytes_eq b.key k) true (checked_in old t k)

-- A prewrite was accepted: where it inserts a key that is not checked yet, the read of its check is
-- added.
abbrev pub Checks : Prewrite → TraceLog → TraceLog → Type 0
Checks b old new = ((check_by b.mutation b.start ≡ None) × AddsSteps [] old new)
    ⊎ (((checked_in old b.start b.key ≡ true) × AddsSteps [] old new) ⊎ AddsCheck b old new)

-- a prewrite is accepted with the minimum m: its check comes before what its lock decides
pub record Accepts (b : Prewrite) (m : ℕ) (old new : TraceLog) : Type 0 where
  pub between : TraceLog
  pub checks : Checks b old between
  pub locks : Locked b.start b.key m (steps_of between) (kept_in between) new
  pub still : (t : ℕ) (k : Key) → checked_in new t k ≡ checked_in between t k

-- a prewrite is answered
abbrev pub Prewrites : Prewrite → Answer → TraceLog → TraceLog → Type 0
Prewrites b (Prewritten m) old new = Accepts b m old new
Prewrites b a old new = TellsFate b.start (fate_in a) old new

-- a transaction is kept from its declaration on
pub record Enters (d : Declaration) (old new : TraceLog) : Type 0 where
  pub first : Pending
  pub is : IsFirst d first
  pub steps : steps_of new ≡ step.Declare d.start d.changes ∷ steps_of old
  pub others : (q : ℕ) → kept_in new q ≡ cond (d.start == q) (Some first) (kept_in old q)
  pub still : (q : ℕ) (k : Key) → checked_in new q k ≡ checked_in old q k
