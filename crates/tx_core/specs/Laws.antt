-- What a lock that was told of says, and what many such locks say together: what async sessions,
-- resolvers and collectors rely on. What is decided when a number is drawn.
use Rattle.std.specs.Prelude.{◌≡◌, ◌≢◌, ◌⊎◌, ℕ, max, true, false, List, [], ◌∷◌, Some, None, Contains}
use Rattle.tx_types.specs.declared.key.Key.{Key}
use Rattle.tx_types.specs.declared.mutation.Change.{Change}
use Rattle.tx_types.specs.declared.mutation.Mode.TheVariants.{Async}
use Rattle.tx_types.specs.declared.lock.LockInfo.{LockInfo}
use Rattle.tx_plan.specs.declared.body.Body.TheVariants as body
use Rattle.tx_plan.specs.declared.body.Prewrite.{Prewrite}
use Rattle.tx_plan.specs.declared.answer.Answer.TheVariants.{Prewritten}
use Rattle.tx_plan.specs.Cells.{Lock, info_of}
use Rattle.tx_plan.specs.cases.Prewrite.{named_minimum}
use Rattle.tx_machine.specs.Keys.{mutation_at}
use Rattle.tx_core.specs.declared.event.Declaration.{Declaration}
use Rattle.tx_core.specs.declared.event.Taken.{Taken}
use Rattle.tx_core.specs.declared.event.Event.TheVariants.{Drawn, Took}
use Rattle.tx_core.specs.Histories.{History, declared, is_first, Among}
use Rattle.tx_types.specs.declared.mutation.Fate.TheVariants as fate
use Rattle.tx_machine.specs.Machine.{Done}
use Rattle.tx_core.specs.Decisions.{Acceptance, accepted, HasTwoPhaseLock, infos_in, decided}
use Rattle.tx_core.specs.Allowed.{listed_on}

-- ---- one lock

-- an answer told of this lock
pub record WasToldOf (h : History) (info : LockInfo) : Type 0 where
  pub by : Taken
  pub among : Among h (Took by)
  pub told : Contains (infos_in by.answer) info

-- It is a lock of a transaction that declared its key; its primary is that transaction's, and where
-- it is async, so is the transaction, and on the primary it lists the other keys. Its key was
-- accepted with its mode, and with its minimum too, unless the key is the primary and some key of
-- the transaction was accepted two-phase: then it may have been pushed.
pub record IsLockOf (h : History) (info : LockInfo) : Type 0 where
  pub of : Declaration
  pub declares : declared h info.start ≡ Some of
  pub within : mutation_at of.changes info.key ≢ None
  pub primary : is_first of.changes info.primary ≡ true
  pub async : info.mode ≡ Async → of.mode ≡ Async
  pub listed : info.mode ≡ Async → info.secondaries ≡ listed_on of info.key
  pub by : Acceptance
  pub accepted : accepted h info.start info.key ≡ Some by
  pub mode : by.lock.mode ≡ info.mode
  pub min : (is_first of.changes info.key ≡ false) ⊎ (HasTwoPhaseLock h info.start → ⊥) → by.lock.min ≡ info.min

-- this prewrite was accepted, and the answer named m
pub record WasPrewritten (h : History) (b : Prewrite) (m : ℕ) : Type 0 where
  pub by : Taken
  pub among : Among h (Took by)
  pub asked : by.body ≡ body.Prewrite b
  pub told : by.answer ≡ Prewritten m

-- the lock that it was accepted for: one of its transaction on its key, whose minimum is m where it
-- is async; else m is 0
pub record HasPrewritten (h : History) (b : Prewrite) (m : ℕ) : Type 0 where
  pub lock : Lock
  pub is : IsLockOf h (info_of b.key lock)
  pub own : lock.start ≡ b.start
  pub named : named_minimum lock ≡ m

-- ---- the order of commits

-- u was decided as committed at c when the number p was drawn
abbrev pub DecidedBefore : History → ℕ → ℕ → ℕ → Type 0
DecidedBefore [] p u c = ⊥
DecidedBefore (Drawn seat n ∷ h) p u c = ((n ≡ p) × (decided h u ≡ Done (fate.Committed c)))
    ⊎ DecidedBefore h p u c
DecidedBefore (_ ∷ h) p u c = DecidedBefore h p u c

-- ---- the locks of all keys

-- the key k of the transaction that started at t had an async lock with the minimum m
pub record HadAsyncLock (h : History) (t : ℕ) (k : Key) (m : ℕ) : Type 0 where
  pub info : LockInfo
  pub is : IsLockOf h info
  pub key : info.key ≡ k
  pub own : info.start ≡ t
  pub async : info.mode ≡ Async
  pub min : info.min ≡ m

-- the greatest of these minimums over the keys of a set, 0 of none
abbrev pub greatest_of : (Key → ℕ) → List Change → ℕ
greatest_of min [] = 0
greatest_of min (c ∷ cs) = max (min c.key) (greatest_of min cs)
