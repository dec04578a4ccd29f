-- The histories that may happen: what the protocol asks of each event. The theorem over every run
-- needs less of it (`IsLegalRun`).
use Rattle.std.specs.Prelude.{◌≡◌, ◌≢◌, ◌⊎◌, ℕ, ◌<◌, ◌≤◌, true, false, List, [], ◌∷◌, length, Some, None, count_by, IsTrue}
use Rattle.tx_types.specs.declared.key.Key.{Key}
use Rattle.tx_plan.specs.declared.body.Body.{Body}
use Rattle.tx_plan.specs.declared.body.Scan.{Scan}
use Rattle.tx_plan.specs.declared.target.Target.{Target}
use Rattle.tx_plan.specs.declared.target.Target.TheVariants as target
use Rattle.tx_types.specs.declared.mutation.Fate.{Fate}
use Rattle.tx_types.specs.declared.mutation.Fate.TheVariants as fate
use Rattle.tx_types.specs.Keys.{key_le}
use Rattle.tx_plan.specs.Reads.{in_range}
use Rattle.tx_plan.specs.Targets.{target as target_of}
use Rattle.tx_plan.specs.Answers.{Answers, start_in}
use Rattle.tx_machine.specs.Keys.{IsDistinct}
use Rattle.tx_core.specs.declared.event.Declaration.{Declaration}
use Rattle.tx_core.specs.declared.event.Outcome.{Outcome}
use Rattle.tx_core.specs.declared.event.Outcome.TheVariants as outcome
use Rattle.tx_core.specs.declared.event.Taken.{Taken}
use Rattle.tx_core.specs.declared.event.Event.{Event}
use Rattle.tx_core.specs.declared.event.Event.TheVariants.{Drawn, Began, Declared, Answered, Stopped, Took}
use Rattle.tx_core.specs.Histories.{History, last, drawer, began, declared, answered, DrewSince, set_at, left, Among}
use Rattle.tx_core.specs.Decisions.{accepted, greatest, fate_in}
use Rattle.tx_core.specs.Allowed.{Allowed}

-- ---- where requests go

-- the region of a key, where these are the bounds between the regions: as many bounds as
-- lie at or below it
abbrev pub route : List Key → Key → ℕ
route bounds k = count_by (λ bound. key_le bound k) bounds

-- the region n has what a request is of: the key, each key of the range, or itself
abbrev pub Has : List Key → ℕ → Target Key Scan → Type 0
Has bounds n (target.Key k) = route bounds k ≡ n
Has bounds n (target.Range b) = (k : Key) → IsTrue (in_range b k) → route bounds k ≡ n
Has bounds n (target.Region m) = m ≡ n

-- the region n holds what a request speaks of
abbrev pub Holds : List Key → ℕ → Body → Type 0
Holds bounds n b = Has bounds n (target_of b)

-- ---- what a session may answer

-- a request of the transaction that started at t was answered so that it told this fate
pub record WasTold (h : History) (t : ℕ) (end : Fate) : Type 0 where
  pub by : Taken
  pub among : Among h (Took by)
  pub of : start_in by.body ≡ Some t
  pub tells : fate_in by.answer ≡ Some end

-- A fate that is answered was told; a commit may also be known from the acceptances of all keys, at
-- the greatest minimum. Read-only says that nothing was declared. Unknown says nothing: the
-- transaction may be committed, aborted or open.
abbrev pub MayAnswer : History → ℕ → Outcome → Type 0
MayAnswer h t (outcome.Committed c) = WasTold h t (fate.Committed c) ⊎ (greatest (accepted h t) (set_at h t) ≡ Some c)
MayAnswer h t outcome.Aborted = WasTold h t fate.Aborted
MayAnswer h t outcome.ReadOnly = declared h t ≡ None
MayAnswer h t (outcome.Unknown cause) = Unit {0}

-- ---- what may come next

-- A transaction declares once, after it began and before its session answers: at least one key, and
-- each once, and a number that its seat drew since it began.
pub record MayDeclare (h : History) (d : Declaration) : Type 0 where
  pub begun : began h d.start ≡ true
  pub unanswered : answered h d.start ≡ false
  pub once : declared h d.start ≡ None
  pub some : d.changes ≢ []
  pub distinct : IsDistinct d.changes
  pub drew : DrewSince h d.start d.drawn

-- A region takes a request that is allowed and that it holds, having loaded a number at or below
-- the last one, and answers by the case tables from what its own events left.
pub record MayTake (bounds : List Key) (h : History) (x : Taken) : Type 0 where
  pub region : x.region ≤ length bounds
  pub allowed : Allowed h x.body
  pub holds : Holds bounds x.region x.body
  pub loaded : x.loaded ≤ last h
  pub answers : Answers (left h x.region) x.loaded (last h) x.body x.answer

-- What may come after a history, over regions with these bounds. A draw gives a number above
-- the last; a transaction begins once, at a number that was drawn; after that it declares once, if
-- at all, and then its session answers once. These events name no seat: they are those of the seat
-- that drew the start (`owner`), which alone may record them (`MayRecord`); what a region takes
-- is its own seat's.
abbrev pub MayCome : List Key → History → Event → Type 0
MayCome bounds h (Drawn seat n) = last h < n
MayCome bounds h (Began t) = (drawer h t ≢ None) × (began h t ≡ false)
MayCome bounds h (Declared d) = MayDeclare h d
MayCome bounds h (Answered t o) = (began h t ≡ true) × (answered h t ≡ false) × MayAnswer h t o
MayCome bounds h (Stopped seat) = Unit {0}
MayCome bounds h (Took x) = MayTake bounds h x

-- A world run: each event may come after those before it.
abbrev pub IsWorldRun : List Key → History → Type 0
IsWorldRun bounds [] = Unit {0}
IsWorldRun bounds (e ∷ h) = IsWorldRun bounds h × MayCome bounds h e
