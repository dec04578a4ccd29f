-- Transactions that are executed one after the other.
use Rattle.std.specs.Prelude.{◌≡◌, ◌≢◌, ◌⊎◌, ◌↔◌, ℕ, ◌≤◌, List, [], ◌∷◌, Option, Some, None}
use Rattle.tx_types.specs.declared.key.Key.{Key}
use Rattle.tx_types.specs.declared.value.Value.{Value}
use Rattle.tx_types.specs.declared.mutation.Change.{Change}
use Rattle.tx_types.specs.declared.mutation.Mutation.{Mutation}
use Rattle.tx_types.specs.declared.mutation.Mutation.TheVariants.{Put, Insert, Delete, Lock}
use Rattle.tx_types.specs.declared.mutation.Fate.TheVariants.{Committed}
use Rattle.tx_machine.specs.declared.step.Step.{Step}
use Rattle.tx_machine.specs.declared.step.Step.TheVariants.{Read}
use Rattle.tx_machine.specs.Keys.{mutation_at}
use Rattle.tx_machine.specs.Machine.{Done, Rows, table_of}

-- a list has this
abbrev pub IsIn : {X : Type 0} → List X → X → Type 0
IsIn [] y = ⊥
IsIn (x ∷ xs) y = (x ≡ y) ⊎ IsIn xs y

-- a transaction that committed: where it started and where it committed, and its write set
pub record Txn : Type 0 where
  pub start : ℕ
  pub commit : ℕ
  pub set : List Change

-- a transaction that started there is committed there, with that write set
abbrev pub IsCommitted : Rows → Txn → Type 0
IsCommitted rows x = rows x.start ≡ Some record { changes = Some x.set; state = Done (Committed x.commit) }

-- what a key holds after a mutation of it
abbrev pub held_by : Option Mutation → Option Value → Option Value
held_by None v = v
held_by (Some (Put w)) v = Some w
held_by (Some (Insert w)) v = Some w
held_by (Some Delete) v = None
held_by (Some Lock) v = v

-- what a key holds after these were executed one after the other, the last of them in front
abbrev pub held : List Txn → Key → Option Value
held [] k = None
held (x ∷ xs) k = held_by (mutation_at x.set k) (held xs k)

-- each is there once, in the order of the commits
abbrev pub IsByCommit : List Txn → Type 0
IsByCommit [] = Unit {0}
IsByCommit (x ∷ xs) = ((y : Txn) → IsIn xs y → (y.commit ≤ x.commit) × (y.start ≢ x.start)) × IsByCommit xs

-- each reads of a key, where it read it in a run, what the key holds after those before it
abbrev pub ReadsSame : List Step → List Txn → Type 0
ReadsSame steps [] = Unit {0}
ReadsSame steps (x ∷ xs) = ((k : Key) (found : Option Value) → IsIn steps (Read k x.start found) → found ≡ held xs k)
    × ReadsSame steps xs

-- the transactions that committed in a run, one after the other in the order of their commits,
-- read what they read in the run
pub record IsSerial (steps : List Step) (order : List Txn) : Type 0 where
  pub committed : (x : Txn) → IsCommitted (table_of steps).row x ↔ IsIn order x
  pub ordered : IsByCommit order
  pub reads : ReadsSame steps order

-- each transaction that committed in a run has every key that it read among its changes
abbrev pub LocksReads : List Step → Type 0
LocksReads steps = (x : Txn) (k : Key) (found : Option Value) → IsCommitted (table_of steps).row x
    → IsIn steps (Read k x.start found) → mutation_at x.set k ≢ None
