-- When a resolver settles what it is asked for.
use Rattle.std.specs.Prelude.{◌≡◌, ◌⊎◌, ℕ, ◌+◌, ◌<◌, ◌≤◌, List, Ok, Err}
use Rattle.std.proofs.Common.{inl, inr}
use Rattle.tx_types.specs.declared.key.Key.{Key}
use Rattle.tx_types.specs.declared.lock.LockInfo.{LockInfo}
use Rattle.tx_types.specs.declared.mutation.Fate.TheVariants as fate
use Rattle.tx_types.specs.declared.mutation.Mode.TheVariants.{Async}
use Rattle.tx_plan.specs.declared.answer.Answer.TheVariants as answer
use Rattle.tx_core.specs.Histories.{History, last}
use Rattle.tx_core.specs.Laws.{WasToldOf}
use Rattle.tx_journal.specs.Known.{Known}
use Rattle.tx_journal.specs.Replies.{Asked}
use Rattle.tx_journal.specs.Senders.{Reached}
use Rattle.tx_transaction.specs.Returns.{Response}
use Rattle.tx_client.specs.declared.resolved.Status.{Status}
use Rattle.tx_client.specs.declared.resolved.Status.TheVariants as status
use Rattle.tx_client.specs.Facts.{WasAnswered}
use Rattle.tx_client.specs.Learns.{response_of}
use Rattle.tx_client.specs.Walks.{Walk, asks, grows, ends, Sends}
use Rattle.tx_resolve.specs.Resolution.{settle_of}
use Rattle.tx_resolve.specs.BlockedReads.{read_walk}

-- a request is answered, and not refused below a safe point
abbrev pub IsServed : Response → Type 0
IsServed (Err why) = ⊥
IsServed (Ok (answer.BelowSafePoint safe)) = ⊥
IsServed (Ok a) = Unit {0}

module _ {S R : Type 0} (sends : S → Asked → Reached → S → Type 0) (bounds : List Key) where
  -- no memory is refused to these sends, and each of their requests is served
  abbrev pub AllServed : (k : Known) (from : S) (w : Walk R) (result : R) (to : S) (new : Known)
      → Sends sends bounds k from w result to new → Type 0
  AllServed k from (ends r) result to new sent = Unit {0}
  AllServed k from (grows more short) result to new (inl sent) = ⊥
  AllServed k from (grows more short) result to new (inr sent) = AllServed k from more result to new sent
  AllServed k from (asks body more) result to new (reached, mid, then_known, sent, learns, rest) =
      IsServed (response_of reached) × AllServed then_known mid (more (response_of reached)) result to new rest

-- What a read at a timestamp does not wait for: a fate, which the lock that was met was answered to
-- have got, or a push above the read.
abbrev pub IsSettled : History → LockInfo → ℕ → Status → Type 0
IsSettled h met at (status.Committed c) = WasAnswered h (settle_of met (fate.Committed c)) answer.Resolved
IsSettled h met at status.Aborted = WasAnswered h (settle_of met fate.Aborted) answer.Resolved
IsSettled h met at (status.Pushed m) = at < m
IsSettled h met at (status.Waiting why) = ⊥

-- The async lock of its transaction on its primary was shown: it does not let a read at a timestamp
-- pass, and its time is not over.
pub record LivesOn (h : History) (met : LockInfo) (at now : ℕ) : Type 0 where
  pub info : LockInfo
  pub told : WasToldOf h info
  pub own : info.start ≡ met.start
  pub primary : info.key ≡ met.primary
  pub async : info.mode ≡ Async
  pub blocks : info.min ≤ at
  pub alive : now ≤ info.start + info.ttl

-- A resolver for a read at a timestamp that was drawn, and for a lock whose time is over, all of
-- whose requests are served, settles, unless the lock on the primary lives on.
abbrev pub SettlesUnlessAlive : {S : Type 0} → List Key → (S → Asked → Reached → S → Type 0) → Type 0
SettlesUnlessAlive {S} bounds sends =
    (old new : Known) (a b : S) (met : LockInfo) (at now : ℕ) (found : Status)
    → (sent : Sends sends bounds old a (read_walk met at now) found b new)
    → AllServed sends bounds old a (read_walk met at now) found b new sent → at ≤ last old.events
    → met.start + met.ttl < now → IsSettled new.events met at found ⊎ LivesOn new.events met at now

-- So where the time of each of its transaction's locks on its primary that was shown is over too,
-- it settles.
abbrev pub Settles : {S : Type 0} → List Key → (S → Asked → Reached → S → Type 0) → Type 0
Settles {S} bounds sends =
    (old new : Known) (a b : S) (met : LockInfo) (at now : ℕ) (found : Status)
    → (sent : Sends sends bounds old a (read_walk met at now) found b new)
    → AllServed sends bounds old a (read_walk met at now) found b new sent → at ≤ last old.events
    → met.start + met.ttl < now
    → ((info : LockInfo) → WasToldOf new.events info → info.start ≡ met.start → info.key ≡ met.primary
    → info.start + info.ttl < now) → IsSettled new.events met at found
