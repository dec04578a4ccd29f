-- The requests that a history allows.
use Rattle.std.specs.Prelude.{◌≡◌, ◌≢◌, ◌⊎◌, ℕ, ◌+◌, ◌<◌, true, cond, List, [], ◌∷◌, map, Some, None, Contains}
use Rattle.tx_types.specs.declared.key.Key.{Key}
use Rattle.tx_types.specs.declared.mutation.Change.{Change}
use Rattle.tx_types.specs.declared.mutation.Mode.TheVariants.{TwoPhase, Async}
use Rattle.tx_types.specs.declared.mutation.Fate.TheVariants.{Committed, Aborted}
use Rattle.tx_plan.specs.declared.body.Body.{Body}
use Rattle.tx_plan.specs.declared.body.Body.TheVariants as body
use Rattle.tx_plan.specs.declared.body.Prewrite.{Prewrite}
use Rattle.tx_plan.specs.declared.body.Commit.{Commit}
use Rattle.tx_plan.specs.declared.body.BatchRollback.{BatchRollback}
use Rattle.tx_plan.specs.declared.body.CheckTxnStatus.{CheckTxnStatus}
use Rattle.tx_plan.specs.declared.body.CheckSecondaryLocks.{CheckSecondaryLocks}
use Rattle.tx_machine.specs.Keys.{mutation_at}
use Rattle.tx_machine.specs.Machine.{Done}
use Rattle.tx_core.specs.declared.event.Declaration.{Declaration}
use Rattle.tx_core.specs.Histories.{History, drawer, declared, set_at, is_first}
use Rattle.tx_core.specs.Decisions.{Acceptance, accepted, AllAccepted, HasTwoPhaseLock, decided, Shows}

-- A read may pass by the locks of a transaction that is decided as aborted, or as committed above
-- the read, or whose own lock on its primary was shown with a minimum above the read.
abbrev pub MayPass : History → ℕ → ℕ → Type 0
MayPass h r t = (decided h t ≡ Done Aborted) ⊎ ((c : ℕ) × (decided h t ≡ Done (Committed c)) × (r < c))
    ⊎ ((m : ℕ) × Shows h t m × (r < m))

-- A read is allowed where it may pass by each transaction that it names: without any, to anyone.
abbrev pub AllowsRead : History → ℕ → List ℕ → Type 0
AllowsRead h r bypass = (t : ℕ) → Contains bypass t → MayPass h r t

-- the keys of a set but the first
abbrev pub other_keys : List Change → List Key
other_keys [] = []
other_keys (c ∷ cs) = map (λ d. d.key) cs

-- the other keys that a prewrite of k lists: all of them on the primary of an async transaction, in
-- buffer order, elsewhere none
abbrev pub listed_on : Declaration → Key → List Key
listed_on d k = elim d.mode [ TwoPhase ↦ [] | Async ↦ cond (is_first d.changes k) (other_keys d.changes) [] ]

-- the least minimum that a prewrite asks for: above the number that was drawn for the declaration;
-- in two phases there is none
abbrev pub floor_of : Declaration → ℕ
floor_of d = elim d.mode [ TwoPhase ↦ 0 | Async ↦ d.drawn + 1 ]

-- A prewrite says what its transaction declared.
pub record AllowsPrewrite (h : History) (b : Prewrite) : Type 0 where
  pub of : Declaration
  pub stands : declared h b.start ≡ Some of
  pub mutation : mutation_at of.changes b.key ≡ Some b.mutation
  pub primary : is_first of.changes b.primary ≡ true
  pub mode : b.mode ≡ of.mode
  pub max_commit : b.max_commit ≡ of.max_commit
  pub floor : b.floor ≡ floor_of of
  pub ttl : b.ttl ≡ of.ttl
  pub others : b.others ≡ listed_on of b.key

-- c was drawn by the seat that drew t, after each key of the set was accepted. Numbers rise, so
-- that is: c lies above the number that was the last one at each acceptance.
pub record DrewAfterAll (h : History) (t c : ℕ) : Type 0 where
  pub seat : ℕ
  pub of_start : drawer h t ≡ Some seat
  pub of_commit : drawer h c ≡ Some seat
  pub after : (k : Key) (by : Acceptance) → mutation_at (set_at h t) k ≢ None → accepted h t k ≡ Some by → by.at < c

-- The commit that decides a transaction: of its primary, once every key is accepted and some key
-- two-phase, at a timestamp that its seat drew after that.
pub record MayDecide (h : History) (b : Commit) : Type 0 where
  pub primary : is_first (set_at h b.start) b.key ≡ true
  pub accepted : AllAccepted h b.start
  pub two_phase : HasTwoPhaseLock h b.start
  pub drawn : DrewAfterAll h b.start b.commit

-- A rollback is of a transaction that is decided as aborted, or of the primary of one that was
-- declared two-phase.
pub record AllowsBatchRollback (h : History) (b : BatchRollback) : Type 0 where
  pub of : Declaration
  pub stands : declared h b.start ≡ Some of
  pub may : (decided h b.start ≡ Done Aborted) ⊎ ((of.mode ≡ TwoPhase) × (is_first of.changes b.key ≡ true))

-- A status is asked of a primary; forced only where the transaction has an accepted two-phase lock.
pub record AllowsCheckTxnStatus (h : History) (b : CheckTxnStatus) : Type 0 where
  pub primary : is_first (set_at h b.start) b.key ≡ true
  pub forced : b.force_sync_commit ≡ true → HasTwoPhaseLock h b.start

-- Secondary locks are checked on the keys of a transaction that was declared async.
pub record AllowsCheckSecondaryLocks (h : History) (b : CheckSecondaryLocks) : Type 0 where
  pub of : Declaration
  pub stands : declared h b.start ≡ Some of
  pub async : of.mode ≡ Async
  pub within : mutation_at of.changes b.key ≢ None

-- The requests that may be made after a history. A commit is at the timestamp that is decided, or
-- decides; a lock is resolved by what is decided of its transaction. What is allowed stays so,
-- however the history grows.
abbrev pub Allowed : History → Body → Type 0
Allowed h (body.Get b) = AllowsRead h b.at b.bypass
Allowed h (body.Scan b) = AllowsRead h b.at b.bypass
Allowed h (body.Prewrite b) = AllowsPrewrite h b
Allowed h (body.Commit b) = (decided h b.start ≡ Done (Committed b.commit)) ⊎ MayDecide h b
Allowed h (body.BatchRollback b) = AllowsBatchRollback h b
Allowed h (body.TxnHeartBeat b) = declared h b.start ≢ None
Allowed h (body.CheckTxnStatus b) = AllowsCheckTxnStatus h b
Allowed h (body.CheckSecondaryLocks b) = AllowsCheckSecondaryLocks h b
Allowed h (body.ResolveLock b) = decided h b.start ≡ Done b.fate
Allowed h _ = Unit {0}
