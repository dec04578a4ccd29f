-- What holds of what a resolver has found so far, and what may come of a collector's requests.
use Rattle.std.specs.Prelude.{◌≡◌, ℕ, max, true, List, [], ◌∷◌, Ok, Err}
use Rattle.tx_types.specs.declared.key.Key.{Key}
use Rattle.tx_types.specs.declared.lock.LockInfo.{LockInfo}
use Rattle.tx_types.specs.declared.mutation.Mode.TheVariants.{Async}
use Rattle.tx_machine.specs.Machine.{Done}
use Rattle.tx_core.specs.Histories.{History, set_at, is_first}
use Rattle.tx_core.specs.Decisions.{decided, HasTwoPhaseLock}
use Rattle.tx_core.specs.Worlds.{IsWorldRun}
use Rattle.tx_core.specs.Laws.{WasToldOf, IsLockOf, HadAsyncLock}
use Rattle.tx_plan.specs.declared.answer.Answer.TheVariants as answer
use Rattle.tx_transaction.specs.Returns.{Response}
use Rattle.tx_transaction.specs.declared.state.Miss.TheVariants as miss
use Rattle.tx_client.specs.Statuses.{Ends}
use Rattle.tx_resolve.specs.declared.findings.Primary.{Primary}
use Rattle.tx_resolve.specs.declared.findings.Primary.TheVariants as primary
use Rattle.tx_resolve.specs.declared.findings.Others.{Others}
use Rattle.tx_resolve.specs.declared.findings.Others.TheVariants as others
use Rattle.tx_resolve.specs.declared.findings.Other.{Other}
use Rattle.tx_resolve.specs.declared.findings.Other.TheVariants as other

-- what a seat has seen is a world run, which told of the lock that was met
pub record Knows (bounds : List Key) (h : History) (met : LockInfo) : Type 0 where
  pub run : IsWorldRun bounds h
  pub told : WasToldOf h met

-- the async lock of the transaction that started at t on its own primary
pub record IsPrimarysLock (h : History) (t : ℕ) (info : LockInfo) : Type 0 where
  pub is : IsLockOf h info
  pub own : info.start ≡ t
  pub primary : is_first (set_at h t) info.key ≡ true
  pub async : info.mode ≡ Async

abbrev pub IsPrimary : History → ℕ → Primary → Type 0
IsPrimary h t (primary.Rests found) = Ends h t found
IsPrimary h t (primary.Decided end) = decided h t ≡ Done end
IsPrimary h t (primary.Expired info) = IsPrimarysLock h t info

abbrev pub IsOthers : History → ℕ → Others → Type 0
IsOthers h t (others.Rests why) = Unit {0}
IsOthers h t (others.Decided end) = decided h t ≡ Done end
IsOthers h t others.FellBack = HasTwoPhaseLock h t

abbrev pub IsOther : History → ℕ → Key → Other → Type 0
IsOther h t key (other.Async minimum) = HadAsyncLock h t key minimum
IsOther h t key (other.Ends found) = IsOthers h t found

-- each of these keys had an async lock, and `most` is the greatest of `least` and their minimums
abbrev pub HadLocks : History → ℕ → List Key → ℕ → ℕ → Type 0
HadLocks h t [] least most = most ≡ least
HadLocks h t (key ∷ keys) least most = (minimum : ℕ) × HadAsyncLock h t key minimum
    × HadLocks h t keys (max least minimum) most

-- ---- what may come of a collector's requests, none of them lost: an answer of the tables, or none

abbrev pub IsToRaise : Response → Type 0
IsToRaise (Err miss.Fault) = Unit {0}
IsToRaise (Ok answer.Raised) = Unit {0}
IsToRaise (Ok (answer.BelowSafePoint safe)) = Unit {0}
IsToRaise (Ok (answer.FutureTimestamp last)) = Unit {0}
IsToRaise _ = ⊥

abbrev pub IsToList : Response → Type 0
IsToList (Err miss.Fault) = Unit {0}
IsToList (Ok (answer.Locks infos)) = Unit {0}
IsToList _ = ⊥

abbrev pub IsToDrop : Response → Type 0
IsToDrop (Err miss.Fault) = Unit {0}
IsToDrop (Ok (answer.Collected records values)) = Unit {0}
IsToDrop (Ok (answer.BelowSafePoint safe)) = Unit {0}
IsToDrop _ = ⊥

abbrev pub IsToCollect : Response → Type 0
IsToCollect (Ok (answer.LocksRemain info)) = Unit {0}
IsToCollect c = IsToDrop c
