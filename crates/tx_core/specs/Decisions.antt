-- What a history decides of a transaction, read off what its events do to cells.
use Rattle.std.specs.Prelude.{◌≡◌, ◌≢◌, ℕ, ◌==◌, ◌&&◌, max, true, cond, List, [], ◌∷◌, Option, Some, None, bytes_eq, Contains}
use Rattle.tx_types.specs.declared.key.Key.{Key}
use Rattle.tx_types.specs.declared.mutation.Change.{Change}
use Rattle.tx_types.specs.declared.mutation.Mode.TheVariants.{TwoPhase, Async}
use Rattle.tx_types.specs.declared.mutation.Fate.{Fate}
use Rattle.tx_types.specs.declared.mutation.Fate.TheVariants as fate
use Rattle.tx_types.specs.declared.lock.LockInfo.{LockInfo}
use Rattle.tx_plan.specs.declared.body.Body.{Body}
use Rattle.tx_plan.specs.declared.body.Body.TheVariants.{Prewrite, Commit, BatchRollback, CheckTxnStatus, CheckSecondaryLocks}
use Rattle.tx_plan.specs.declared.answer.Answer.{Answer}
use Rattle.tx_plan.specs.declared.answer.Answer.TheVariants.{Prewritten, Committed, RolledBack, Missing, Locked, Locks, KeyIsLocked, AlreadyRolledBack, AlreadyCommitted, LocksRemain}
use Rattle.tx_plan.specs.Cells.{Lock, Cells}
use Rattle.tx_plan.specs.Own.{is_own}
use Rattle.tx_plan.specs.cases.Prewrite.{lock_of}
use Rattle.tx_machine.specs.Keys.{mutation_at}
use Rattle.tx_machine.specs.Machine.{State, Open, Done}
use Rattle.tx_core.specs.declared.event.Taken.{Taken}
use Rattle.tx_core.specs.declared.event.Event.TheVariants.{Took}
use Rattle.tx_core.specs.Histories.{History, last, set_at, is_first, left, Among}

-- ---- what an event does

-- What an answer did to the cells, beyond what it said. A repeated answer says the same and does
-- nothing, so acceptances and decisions are read off what was done: a lock put, the lock of the
-- transaction that started at t settled at c, a rollback left for it, or none.
pub data Effect : Type 0 where
  Puts : (key : Key) (lock : Lock) → Effect
  Settles : (key : Key) (t c : ℕ) → Effect
  RollsBack : (t : ℕ) → Effect
  NoEffect : Effect

-- the effect of a request that was answered so, where the cells were these: a repeated answer has
-- none, nor has a lock that is resolved, which only follows what was decided
abbrev pub effect : (Key → Cells) → Body → Answer → Effect
effect cells (Prewrite b) (Prewritten m) = cond (is_own (cells b.key).lock b.start) NoEffect (Puts b.key (lock_of b m))
effect cells (Commit b) (Committed c) = cond (is_own (cells b.key).lock b.start) (Settles b.key b.start b.commit)
    NoEffect
effect cells (BatchRollback b) RolledBack = RollsBack b.start
effect cells (CheckTxnStatus b) RolledBack = RollsBack b.start
effect cells (CheckSecondaryLocks b) Missing = RollsBack b.start
effect cells _ _ = NoEffect

-- the effect of what a region took after a history
abbrev pub effect_in : History → Taken → Effect
effect_in h x = effect (left h x.region).cells x.body x.answer

-- ---- acceptances

-- that a prewrite was accepted: the lock that it put, and the last number drawn then
pub record Acceptance : Type 0 where
  pub lock : Lock
  pub at : ℕ

-- the first acceptance stands
abbrev pub first_accepted : Option Acceptance → Acceptance → Option Acceptance
first_accepted None new = Some new
first_accepted (Some old) new = Some old

abbrev pub accepted_by : Effect → ℕ → ℕ → Key → Option Acceptance → Option Acceptance
accepted_by (Puts key lock) n t k before = cond ((lock.start == t)
    && bytes_eq key k) (first_accepted before record { lock = lock; at = n }) before
accepted_by _ n t k before = before

-- the acceptance of the key k for the transaction that started at t
abbrev pub accepted : History → ℕ → Key → Option Acceptance
accepted [] t k = None
accepted (Took x ∷ h) t k = accepted_by (effect_in h x) (last h) t k (accepted h t k)
accepted (_ ∷ h) t k = accepted h t k

-- each key of its set is accepted
abbrev pub AllAccepted : History → ℕ → Type 0
AllAccepted h t = (k : Key) → mutation_at (set_at h t) k ≢ None → accepted h t k ≢ None

-- some key has an accepted two-phase lock: it was declared two-phase, or fell back
pub record HasTwoPhaseLock (h : History) (t : ℕ) : Type 0 where
  pub key : Key
  pub by : Acceptance
  pub stands : accepted h t key ≡ Some by
  pub two_phase : by.lock.mode ≡ TwoPhase

-- ---- decisions

-- the minimum of an async acceptance
abbrev pub async_minimum : Option Acceptance → Option ℕ
async_minimum None = None
async_minimum (Some by) = elim by.lock.mode [ TwoPhase ↦ None | Async ↦ Some by.lock.min ]

abbrev pub greater : Option ℕ → Option ℕ → Option ℕ
greater (Some m) (Some n) = Some (max m n)
greater _ _ = None

-- the greatest minimum of the keys of a set, where each is accepted async (an empty set
-- is never declared)
abbrev pub greatest : (Key → Option Acceptance) → List Change → Option ℕ
greatest acceptance [] = None
greatest acceptance (c ∷ []) = async_minimum (acceptance c.key)
greatest acceptance (c ∷ d ∷ cs) = greater (async_minimum (acceptance c.key)) (greatest acceptance (d ∷ cs))

abbrev pub committed_at : Option ℕ → State
committed_at None = Open
committed_at (Some c) = Done (fate.Committed c)

-- what an effect decides of the transaction that started at t, with this set, and these acceptances
-- after it: a lock put decides where each key is now accepted async, a lock settled where its key
-- is the primary, a rollback left always
abbrev pub decision : List Change → (Key → Option Acceptance) → Effect → ℕ → State
decision set acceptance (Puts key lock) t = cond (lock.start == t) (committed_at (greatest acceptance set)) Open
decision set acceptance (Settles key u c) t = cond ((u == t) && is_first set key) (Done (fate.Committed c)) Open
decision set acceptance (RollsBack u) t = cond (u == t) (Done fate.Aborted) Open
decision set acceptance NoEffect t = Open

-- the first decision stands
abbrev pub first_decided : State → State → State
first_decided Open before = before
first_decided (Done new) Open = Done new
first_decided (Done new) (Done before) = Done before

-- what is decided of the transaction that started at t
abbrev pub decided : History → ℕ → State
decided [] t = Open
decided (Took x ∷ h) t = first_decided (decision (set_at h t) (accepted (Took x ∷ h) t) (effect_in h x) t) (decided h t)
decided (_ ∷ h) t = decided h t

-- ---- what is told of fates

-- the fate that an answer tells of the transaction that its request names, if it tells one
abbrev pub fate_in : Answer → Option Fate
fate_in (Committed c) = Some (fate.Committed c)
fate_in (AlreadyCommitted c) = Some (fate.Committed c)
fate_in RolledBack = Some fate.Aborted
fate_in Missing = Some fate.Aborted
fate_in AlreadyRolledBack = Some fate.Aborted
fate_in _ = None

-- ---- what is shown of locks

-- the locks that an answer tells of
abbrev pub infos_in : Answer → List LockInfo
infos_in (KeyIsLocked info) = info ∷ []
infos_in (LocksRemain info) = info ∷ []
infos_in (Locked info) = info ∷ []
infos_in (Locks infos) = infos
infos_in _ = []

-- an answer showed the lock of the transaction that started at t on its own primary,
-- with the minimum m
pub record Shows (h : History) (t m : ℕ) : Type 0 where
  pub by : Taken
  pub among : Among h (Took by)
  pub info : LockInfo
  pub told : Contains (infos_in by.answer) info
  pub primary : is_first (set_at h t) info.key ≡ true
  pub own : info.start ≡ t
  pub min : info.min ≡ m
