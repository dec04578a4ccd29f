-- The histories of which the theorem over every run speaks. The protocol asks more of its events
-- (`MayCome`): these are the conditions that the theorem needs.
use Rattle.std.specs.Prelude.{◌≡◌, ◌≢◌, ◌⊎◌, ℕ, ◌<◌, ◌≤◌, true, false, List, [], ◌∷◌, Some, None, Contains}
use Rattle.tx_types.specs.declared.key.Key.{Key}
use Rattle.tx_types.specs.declared.lock.LockInfo.{LockInfo}
use Rattle.tx_types.specs.declared.mutation.Fate.TheVariants.{Committed, Aborted}
use Rattle.tx_plan.specs.declared.body.Body.{Body}
use Rattle.tx_plan.specs.declared.body.Body.TheVariants as body
use Rattle.tx_plan.specs.declared.body.Prewrite.{Prewrite}
use Rattle.tx_plan.specs.declared.body.Commit.{Commit}
use Rattle.tx_plan.specs.Answers.{Answers}
use Rattle.tx_machine.specs.Keys.{mutation_at, IsDistinct}
use Rattle.tx_machine.specs.Machine.{Done}
use Rattle.tx_core.specs.declared.event.Declaration.{Declaration}
use Rattle.tx_core.specs.declared.event.Taken.{Taken}
use Rattle.tx_core.specs.declared.event.Event.{Event}
use Rattle.tx_core.specs.declared.event.Event.TheVariants.{Drawn, Began, Declared, Answered, Stopped, Took}
use Rattle.tx_core.specs.Histories.{History, last, drawer, began, declared, set_at, is_first, left}
use Rattle.tx_core.specs.Decisions.{Acceptance, accepted, AllAccepted, HasTwoPhaseLock, decided}
use Rattle.tx_core.specs.Allowed.{AllowsBatchRollback, AllowsCheckTxnStatus}
use Rattle.tx_core.specs.Worlds.{Holds, MayAnswer}
use Rattle.tx_core.specs.Laws.{WasToldOf}

-- ---- requests

-- A read may pass by the locks of each transaction that it names: by what is decided as aborted, or
-- as committed above the read, and by what had a lock that was told of with a minimum above it.
abbrev pub IsLegalRead : History → ℕ → List ℕ → Type 0
IsLegalRead h r bypass = (t : ℕ) → Contains bypass t → (decided h t ≡ Done Aborted)
    ⊎ ((c : ℕ) × (decided h t ≡ Done (Committed c)) × (r < c))
    ⊎ ((info : LockInfo) × WasToldOf h info × (info.start ≡ t) × (r < info.min))

-- A prewrite is of a change that its transaction declared, in the declared mode.
pub record IsLegalPrewrite (h : History) (b : Prewrite) : Type 0 where
  pub of : Declaration
  pub stands : declared h b.start ≡ Some of
  pub mutation : mutation_at of.changes b.key ≡ Some b.mutation
  pub mode : b.mode ≡ of.mode

-- The commit that decides a transaction: of its primary, once every key is accepted and some key
-- two-phase, at a timestamp that was drawn after that. Numbers rise, so it lies above the number
-- that was the last one at each acceptance.
pub record IsLegalDecision (h : History) (b : Commit) : Type 0 where
  pub primary : is_first (set_at h b.start) b.key ≡ true
  pub complete : AllAccepted h b.start
  pub two_phase : HasTwoPhaseLock h b.start
  pub drawn : drawer h b.commit ≢ None
  pub after : (k : Key) (by : Acceptance) → mutation_at (set_at h b.start) k ≢ None → accepted h b.start k ≡ Some by
      → by.at < b.commit

-- The requests of which a region's answer is explained. Secondary locks are checked on keys that
-- were declared; of a heartbeat nothing is asked.
abbrev pub IsLegalRequest : History → Body → Type 0
IsLegalRequest h (body.Get b) = IsLegalRead h b.at b.bypass
IsLegalRequest h (body.Scan b) = IsLegalRead h b.at b.bypass
IsLegalRequest h (body.Prewrite b) = IsLegalPrewrite h b
IsLegalRequest h (body.Commit b) = (decided h b.start ≡ Done (Committed b.commit)) ⊎ IsLegalDecision h b
IsLegalRequest h (body.BatchRollback b) = AllowsBatchRollback h b
IsLegalRequest h (body.CheckTxnStatus b) = AllowsCheckTxnStatus h b
IsLegalRequest h (body.CheckSecondaryLocks b) = mutation_at (set_at h b.start) b.key ≢ None
IsLegalRequest h (body.ResolveLock b) = decided h b.start ≡ Done b.fate
IsLegalRequest h _ = Unit {0}

-- ---- events

-- A transaction declares once, after it began: at least one key, and each once.
pub record IsLegalDeclaration (h : History) (d : Declaration) : Type 0 where
  pub begun : began h d.start ≡ true
  pub once : declared h d.start ≡ None
  pub some : d.changes ≢ []
  pub distinct : IsDistinct d.changes

-- A region takes a legal request that it holds, having loaded a number at or below the last one,
-- and answers by the case tables from what its own events left.
pub record IsLegallyTaken (bounds : List Key) (h : History) (x : Taken) : Type 0 where
  pub legal : IsLegalRequest h x.body
  pub holds : Holds bounds x.region x.body
  pub loaded : x.loaded ≤ last h
  pub answers : Answers (left h x.region) x.loaded (last h) x.body x.answer

-- An event that is legal after a history, over regions with these bounds. A draw gives a number
-- above the last; a transaction begins once, at a number that was drawn; after that its session may
-- answer what it knows, any number of times.
abbrev pub IsLegal : List Key → History → Event → Type 0
IsLegal bounds h (Drawn seat n) = last h < n
IsLegal bounds h (Began t) = (drawer h t ≢ None) × (began h t ≡ false)
IsLegal bounds h (Declared d) = IsLegalDeclaration h d
IsLegal bounds h (Answered t o) = (began h t ≡ true) × MayAnswer h t o
IsLegal bounds h (Stopped seat) = Unit {0}
IsLegal bounds h (Took x) = IsLegallyTaken bounds h x

-- A legal run: each event is legal after those before it.
abbrev pub IsLegalRun : List Key → History → Type 0
IsLegalRun bounds [] = Unit {0}
IsLegalRun bounds (e ∷ h) = IsLegalRun bounds h × IsLegal bounds h e
