-- Collect: a region drops the records below its safe point that no read needs any more.
use Rattle.std.specs.Prelude.{◌≡◌, ◌≢◌, ◌↔◌, ℕ, zero, suc, ◌+◌, ◌-◌, ◌&&◌, ◌||◌, not, nat_lt, Bool, true, false, cond, List, [], ◌∷◌, length, AllPairs, Contains, IsTrue, Option, Some, None}
use Rattle.tx_types.specs.declared.key.Key.{Key}
use Rattle.tx_types.specs.declared.lock.LockInfo.{LockInfo}
use Rattle.tx_types.specs.declared.mutation.Mutation.{Mutation}
use Rattle.tx_types.specs.declared.mutation.Mutation.TheVariants.{Put, Insert}
use Rattle.tx_plan.specs.declared.body.Collect.{Collect}
use Rattle.tx_plan.specs.declared.answer.Answer.{Answer}
use Rattle.tx_plan.specs.declared.answer.Answer.TheVariants.{Collected, BelowSafePoint, LocksRemain}
use Rattle.tx_plan.specs.Tables.{Case}
use Rattle.tx_types.specs.Keys.{key_lt, is_visible}
use Rattle.tx_plan.specs.Cells.{Write, CommitOf, Writes, Cells, is_long}
use Rattle.tx_plan.specs.cases.LocksBelow.{IsLockBelow}

-- ---- which records stay

-- whether a mutation puts
abbrev pub is_put : Mutation → Bool
is_put (Put v) = true
is_put (Insert v) = true
is_put _ = false

-- whether the commit record that stands of a version, if one does, passes the test
abbrev pub commit_is : (Mutation → Bool) → Option Write → Bool
commit_is test (Some (CommitOf rec)) = test rec.mutation
commit_is test _ = false

-- none of the n timestamps above q holds a put or delete
abbrev pub none_above : Writes → ℕ → ℕ → Bool
none_above write q zero = true
none_above write q (suc n) = not (commit_is is_visible (write (q + suc n))) && none_above write q n

-- A record at or above the safe point stays. Below it a put stays that no put or delete follows up
-- to and at the safe point.
abbrev pub keeps : Writes → ℕ → ℕ → Bool
keeps write safe q = not (nat_lt q safe) || commit_is is_put (write q) && none_above write q (safe - q)

-- the cells of a key after collection
abbrev pub kept : Cells → ℕ → Cells
kept cells safe = record cells { write = λ q. cond (keeps cells.write safe q) (cells.write q) None }

-- ---- what is counted

-- a version that collection empties: a key and a timestamp
abbrev pub IsDropped : (Key → Cells) → ℕ → Key × ℕ → Type 0
IsDropped cells safe version = ((cells version.0).write version.1 ≢ None)
    × (keeps (cells version.0).write safe version.1 ≡ false)

-- all the versions that collection empties, each once
pub record AllDropped (cells : Key → Cells) (safe : ℕ) (versions : List (Key × ℕ)) : Type 0 where
  pub once : AllPairs (λ x y. x ≢ y) versions
  pub each : (version : Key × ℕ) → Contains versions version ↔ IsDropped cells safe version

-- how many of these versions hold a commit record whose value stands in the `default` family
abbrev pub long_values : (Key → Cells) → List (Key × ℕ) → ℕ
long_values cells [] = 0
long_values cells (x ∷ xs) = cond (commit_is is_long ((cells x.0).write x.1)) (suc (long_values cells xs))
    (long_values cells xs)

-- ---- the table

-- some lock started below the safe point
abbrev pub SomeLockBelow : (Key → Cells) → ℕ → Type 0
SomeLockBelow cells safe = (info : LockInfo) × IsLockBelow cells safe info

-- the first such lock by key
pub record IsFirstBelow (cells : Key → Cells) (safe : ℕ) (info : LockInfo) : Type 0 where
  pub stands : IsLockBelow cells safe info
  pub first : (other : LockInfo) → IsLockBelow cells safe other → IsTrue (key_lt other.key info.key) → ⊥

-- A timestamp that is not the region's safe point is refused, and so is collection while a lock
-- started below it: it names the first by key. Else it has collected, and tells two counts.
-- `Counts` says which.
abbrev pub AnswersCollectBy : ((Key → Cells) → ℕ → Answer → Type 0) → (Key → Cells) → ℕ → Collect → Answer → Type 0
AnswersCollectBy Counts cells safe b a =
    Case (b.safe ≢ safe) (a ≡ BelowSafePoint safe)
    (Case ((info : LockInfo) × IsLockBelow cells b.safe info) ((info : LockInfo) × IsFirstBelow cells b.safe info
    × (a ≡ LocksRemain info))
    (Counts cells b.safe a))

-- it has collected, whatever it counted
abbrev pub HasCollected : (Key → Cells) → ℕ → Answer → Type 0
HasCollected cells safe a = (records values : ℕ) × (a ≡ Collected records values)

-- it counts the records that it drops, and the values of the `default` family that go with them
abbrev pub CountsDropped : (Key → Cells) → ℕ → Answer → Type 0
CountsDropped cells safe a = (versions : List (Key × ℕ)) × AllDropped cells safe versions
    × (a ≡ Collected (length versions) (long_values cells versions))

-- what a region of this store answers: with these counts
abbrev pub AnswersCollect : (Key → Cells) → ℕ → Collect → Answer → Type 0
AnswersCollect = AnswersCollectBy CountsDropped
