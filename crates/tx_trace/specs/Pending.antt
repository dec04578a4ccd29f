-- What a declared transaction that is not decided waits for.
-- Callers see of it what `Traces.antt` says.
use Rattle.std.specs.Prelude.{◌≡◌, ◌≢◌, ◌⊎◌, ℕ, ◌==◌, max, Bool, true, false, cond, List, Option, Some, None, is_some}
use Rattle.std.specs.BTreeSet as sorted
use Rattle.std.specs.BTreeSet.{BTreeSet}
use Rattle.std.specs.Cmp.Lexicographic.{slice_cmp}
use Rattle.std.specs.Ordering.{nat_cmp}
use Rattle.tx_types.specs.declared.key.Key.{Key}
use Rattle.tx_types.specs.declared.mutation.Change.{Change}
use Rattle.tx_types.specs.declared.mutation.Mode.TheVariants.{TwoPhase, Async}
use Rattle.tx_machine.specs.Keys.{mutation_at}
use Rattle.tx_core.specs.declared.event.Declaration.{Declaration}
use Rattle.tx_core.specs.Decisions.{Acceptance}
use Rattle.tx_core.specs.Laws.{greatest_of}
use Rattle.tx_trace.specs.declared.pending.Locks.{Locks}
use Rattle.tx_trace.specs.declared.pending.Pending.{Pending}
use Rattle.tx_trace.specs.declared.pending.Pending.TheVariants as pending

-- whether a key is in a set
abbrev pub has : BTreeSet Key → Key → Bool
has keys k = sorted.contains (slice_cmp nat_cmp) keys k

-- the acceptances of the keys of one transaction
abbrev pub Accepted : Type 0
Accepted = Key → Option Acceptance

-- ---- what is waited for

-- the minimum of an acceptance, 0 where there is none
abbrev pub minimum_in : Option Acceptance → ℕ
minimum_in None = 0
minimum_in (Some by) = by.lock.min

-- the greatest minimum of the keys of a set that are accepted
abbrev pub greatest_in : Accepted → List Change → ℕ
greatest_in accepted set = greatest_of (λ k. minimum_in (accepted k)) set

-- a key of the set was accepted two-phase
pub record HasTwoPhase (set : List Change) (accepted : Accepted) : Type 0 where
  pub key : Key
  pub by : Acceptance
  pub within : mutation_at set key ≢ None
  pub stands : accepted key ≡ Some by
  pub two_phase : by.lock.mode ≡ TwoPhase

-- Some key of the set is left; those that are left are those that are not accepted. Those that are
-- accepted are async, and the greatest of their minimums is known.
pub record AwaitsLocks (set : List Change) (accepted : Accepted) (locks : Locks) : Type 0 where
  pub some : (k : Key) × (has locks.left k ≡ true)
  pub within : (k : Key) → has locks.left k ≡ true → mutation_at set k ≢ None
  pub left : (k : Key) → has locks.left k ≡ true → accepted k ≡ None
  pub rest : (k : Key) → mutation_at set k ≢ None → has locks.left k ≡ false → accepted k ≢ None
  pub async : (k : Key) (by : Acceptance) → mutation_at set k ≢ None → accepted k ≡ Some by → by.lock.mode ≡ Async
  pub min : locks.min ≡ greatest_in accepted set

-- A transaction that declared this waits for the commit of its primary alone where it is two-phase,
-- or a key of it was accepted so; else it waits for the locks that are left as well.
abbrev pub Awaits : Declaration → Accepted → Pending → Type 0
Awaits d accepted pending.Primary = (d.mode ≡ TwoPhase) ⊎ HasTwoPhase d.changes accepted
Awaits d accepted (pending.Locks locks) = AwaitsLocks d.changes accepted locks

-- ---- what is done

-- the keys are those of the set, and no minimum is known
pub record AreAll (set : List Change) (locks : Locks) : Type 0 where
  pub keys : (k : Key) → has locks.left k ≡ is_some (mutation_at set k)
  pub min : locks.min ≡ 0

-- what is waited for once this is declared
abbrev pub IsFirst : Declaration → Pending → Type 0
IsFirst d pending.Primary = d.mode ≡ TwoPhase
IsFirst d (pending.Locks locks) = AreAll d.changes locks

-- the key k is taken out, and the minimum m in
pub record TakesOutKey (old : Locks) (k : Key) (m : ℕ) (new : Locks) : Type 0 where
  pub was : has old.left k ≡ true
  pub gone : has new.left k ≡ false
  pub others : (q : Key) → q ≢ k → has new.left q ≡ has old.left q
  pub async : m ≢ 0
  pub min : new.min ≡ max old.min m

-- what that completes, where no key is left: the commit of the transaction, at the greatest minimum
abbrev pub Completes : Locks → Option ℕ → Type 0
Completes locks None = (k : Key) × (has locks.left k ≡ true)
Completes locks (Some commit) = ((k : Key) → has locks.left k ≡ false) × (commit ≡ locks.min)

-- The key k is accepted with the minimum m, 0 of a two-phase lock: after that no locks are waited
-- for. A key that is not left changes nothing. The last key completes the transaction.
abbrev pub Accepts : Pending → Key → ℕ → Pending → Option ℕ → Type 0
Accepts pending.Primary k m new commit = (new ≡ pending.Primary) × (commit ≡ None)
Accepts (pending.Locks old) k m pending.Primary commit = (has old.left k ≡ true) × (m ≡ 0) × (commit ≡ None)
Accepts (pending.Locks old) k m (pending.Locks new) commit = ((has old.left k ≡ false) × (new ≡ old) × (commit ≡ None))
    ⊎ (TakesOutKey old k m new × Completes new commit)

-- ---- of all transactions

-- what each transaction that is kept waits for, by its start
abbrev pub PendingByStart : Type 0
PendingByStart = ℕ → Option Pending

-- the transaction that starts at t is kept, and its key k is accepted
pub record Turns (t : ℕ) (k : Key) (m : ℕ) (old new : PendingByStart) (commit : Option ℕ) : Type 0 where
  pub was : Pending
  pub now : Pending
  pub before : old t ≡ Some was
  pub accepts : Accepts was k m now commit
  pub changed : (q : ℕ) → new q ≡ cond (t == q) (Some now) (old q)

-- if it is kept, its key k is accepted
abbrev pub AcceptsIn : ℕ → Key → ℕ → PendingByStart → PendingByStart → Option ℕ → Type 0
AcceptsIn t k m old new commit = ((old t ≡ None) × ((q : ℕ) → new q ≡ old q) × (commit ≡ None))
    ⊎ Turns t k m old new commit
