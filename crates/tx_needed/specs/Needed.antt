-- When a condition of the premise of the theorem over every run is needed, and when a rule of what
-- answers leave is.
use Rattle.std.specs.Prelude.{◌≡◌, ◌⊎◌, ℕ, ◌≤◌, ◌==◌, cond, List, [], ◌∷◌}
use Rattle.tx_types.specs.declared.key.Key.{Key}
use Rattle.tx_types.specs.declared.mutation.Fate.{Fate}
use Rattle.tx_plan.specs.declared.body.Body.{Body}
use Rattle.tx_plan.specs.declared.answer.Answer.{Answer}
use Rattle.tx_plan.specs.Cells.{Region, new_region}
use Rattle.tx_plan.specs.Answers.{Answers}
use Rattle.tx_machine.specs.declared.step.Step.{Step}
use Rattle.tx_machine.specs.Machine.{Done, IsRun, table_of}
use Rattle.tx_core.specs.declared.event.Taken.{Taken}
use Rattle.tx_core.specs.declared.event.Event.{Event}
use Rattle.tx_core.specs.declared.event.Event.TheVariants.{Took}
use Rattle.tx_core.specs.Histories.{History, last, left}
use Rattle.tx_core.specs.Decisions.{decided}
use Rattle.tx_core.specs.EventSteps.{Explains}
use Rattle.tx_core.specs.Truth.{HasEnded}
use Rattle.tx_core.specs.Allowed.{Allowed}
use Rattle.tx_core.specs.Worlds.{Holds, MayCome, IsWorldRun}

-- what the theorem says of a history
abbrev pub IsExplained : History → Type 0
IsExplained events = (steps : List Step) × Explains steps events × IsRun steps
    × ((t : ℕ) (end : Fate) → decided events t ≡ Done end → HasEnded (table_of steps) t end)

-- ---- a condition

-- A run of the protocol but for one event, which comes by another rule.
abbrev pub IsRunBut : (List Key → History → Event → Type 0) → List Key → History → Type 0
IsRunBut Rule bounds [] = ⊥
IsRunBut Rule bounds (e ∷ h) = (IsWorldRun bounds h × Rule bounds h e) ⊎ (IsRunBut Rule bounds h × MayCome bounds h e)

-- The theorem is false by that rule: there is a history with one event by it that nothing explains.
-- Where the rule is `IsLegal` but for one condition, that condition is needed.
pub record IsNeeded (Rule : List Key → History → Event → Type 0) : Type 0 where
  pub bounds : List Key
  pub events : History
  pub run : IsRunBut Rule bounds events
  pub unexplained : IsExplained events → ⊥

-- A region takes a request as in `IsLegallyTaken`, but for two things: which requests there are,
-- and from what state of the region it answers.
pub record TakesAs (Allows : History → Body → Type 0) (sees : History → ℕ
    → Region) (bounds : List Key) (h : History) (x : Taken) : Type 0 where
  pub allowed : Allows h x.body
  pub holds : Holds bounds x.region x.body
  pub loaded : x.loaded ≤ last h
  pub answers : Answers (sees h x.region) x.loaded (last h) x.body x.answer

-- an event by another rule of what may be asked: a request that a region takes
abbrev pub Requests : (History → Body → Type 0) → List Key → History → Event → Type 0
Requests Allows bounds h (Took x) = TakesAs Allows left bounds h x
Requests Allows bounds h e = ⊥

-- ---- what an answer leaves

-- what is left of a region where answers leave something else than by `leaves`
abbrev pub left_by : (Region → Body → Answer → Region) → History → ℕ → Region
left_by leaves [] n = new_region
left_by leaves (Took x ∷ h) n = cond (x.region == n) (leaves (left_by leaves h n) x.body x.answer) (left_by leaves h n)
left_by leaves (_ ∷ h) n = left_by leaves h n

abbrev pub MayComeBy : (Region → Body → Answer → Region) → List Key → History → Event → Type 0
MayComeBy leaves bounds h (Took x) = TakesAs Allowed (left_by leaves) bounds h x
MayComeBy leaves bounds h e = MayCome bounds h e

-- A run of the protocol over regions that answer by the same tables, from what is left so.
abbrev pub IsRunBy : (Region → Body → Answer → Region) → List Key → History → Type 0
IsRunBy leaves bounds [] = Unit {0}
IsRunBy leaves bounds (e ∷ h) = IsRunBy leaves bounds h × MayComeBy leaves bounds h e

-- The theorem is false of such regions: there is a run of them that nothing explains.
pub record IsFalseBy (leaves : Region → Body → Answer → Region) : Type 0 where
  pub bounds : List Key
  pub events : History
  pub run : IsRunBy leaves bounds events
  pub unexplained : IsExplained events → ⊥
