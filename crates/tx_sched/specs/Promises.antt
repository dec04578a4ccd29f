-- What jobs promise of their results, and how a run hands it through.
use Rattle.std.specs.Prelude.{ℕ, ◌≡◌, List, [], ◌∷◌, ◌+◌, ◌*◌, ◌^◌, ◌%◌, Option, Some, None, slice_get, slice_index_or, Bool, true, false}

-- a result is what a job promised, and tells its number
abbrev pub KeepsPromise : {J Out : Type 0} → (J → Out → Type 0) → (J → ℕ) → (Out → ℕ) → J → Out
    → Type 0
KeepsPromise promised numbered tells job out = promised job out × (tells out ≡ numbered job)

-- the results are those of the jobs, index by index
abbrev pub AreKept : {J Out : Type 0} → (J → Out → Type 0) → List J → List Out → Type 0
AreKept kept jobs outs = (index : ℕ) (job : _) (out : _) → slice_get jobs index ≡ Some job
    → slice_get outs index ≡ Some out → kept job out

-- each result that a job now promises was promised by another
abbrev pub Leads : {J Out : Type 0} → (J → Out → Type 0) → J → J → Type 0
Leads promised opened job = (out : _) → promised job out → promised opened out

-- no two jobs have one number
abbrev pub AreDistinct : {J : Type 0} → (J → ℕ) → List J → Type 0
AreDistinct number jobs = (i j : ℕ) (a b : _) → slice_get jobs i ≡ Some a → slice_get jobs j ≡ Some b
    → number a ≡ number b → i ≡ j

-- a job that came of the one which opened at this index
abbrev pub CameOf : {J Out : Type 0} → (J → Out → Type 0) → List J → ℕ → J → Type 0
CameOf promised jobs index job = (opened : _) × (slice_get jobs index ≡ Some opened) × Leads promised opened job

-- a result that the job of this index promised
abbrev pub IsOf : {J Out : Type 0} → (J → Out → Type 0) → List J → ℕ → Out → Type 0
IsOf promised jobs index out = (opened : _) × (slice_get jobs index ≡ Some opened) × promised opened out

-- how many are not there yet
abbrev pub count_missing : {Out : Type 0} → List (Option Out) → ℕ
count_missing [] = 0
count_missing (None ∷ outs) = 1 + count_missing outs
count_missing (Some _ ∷ outs) = count_missing outs

-- each result that is there is of its index
abbrev pub AreOf : {J Out : Type 0} → (J → Out → Type 0) → List J → List (Option Out) → Type 0
AreOf promised jobs outs = (index : ℕ) (out : _) → slice_index_or outs index None ≡ Some out
    → IsOf promised jobs index out

-- a fact that need not hold once a flag is set
abbrev pub UnlessClosed : Bool → Type 0 → Type 0
UnlessClosed true fact = Unit {0}
UnlessClosed false fact = fact

-- what is told of a job on its way: its index among the jobs, its number, and how
-- many steps it made
pub record Ticket : Type 0 where
  pub index : ℕ
  pub number : ℕ
  pub steps : ℕ

-- the number of the command of its next step
abbrev pub cid_of : Ticket → ℕ
cid_of t = t.number * 2 ^ 32 + t.steps

-- after a step
abbrev pub after_step : Ticket → Ticket
after_step t = record t { steps = (t.steps + 1) % 2 ^ 32 }
