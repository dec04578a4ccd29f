-- What comes of the lock that stands in a session's way.
use Rattle.std.specs.Prelude.{◌≡◌, ℕ, List, Option, Some, None, unwrap_or}
use Rattle.tx_types.specs.declared.key.Key.{Key}
use Rattle.tx_types.specs.declared.lock.LockInfo.{LockInfo}
use Rattle.tx_core.specs.Histories.{History, last}
use Rattle.tx_journal.specs.Known.{Known, HasSeen}
use Rattle.tx_transaction.specs.Sessions.{with_passed}
use Rattle.tx_client.specs.declared.resolved.Status.{Status}
use Rattle.tx_client.specs.Statuses.{lies_above}
use Rattle.tx_client.specs.Calls.{Seated, HasHeard}
use Rattle.tx_resolve.specs.BlockedReads.{read_walk}
use Rattle.tx_transfer.specs.Sends.{SendsOver}

-- a seat has looked at what happened so far, and made no event
pub record HasLooked (bounds : List Key) (old new : Known) : Type 0 where
  pub number : new.seat ≡ old.seat
  pub ticks : new.ticks ≡ old.ticks
  pub seen : HasSeen bounds old.seat old.events new.events

-- A lock that stopped a read at `reader` is resolved: the seat learns what told of it, looks at the
-- last timestamp that was drawn, and sends just the resolver's walk, at the time that is handed in,
-- or else at that timestamp.
pub record Resolves (bounds : List Key) (old : Known) (lock : LockInfo) (told : History) (reader : ℕ)
    (now : Option ℕ) (result : Status) (new : Known) : Type 0 where
  pub learnt : Known
  pub learns : HasHeard bounds old told learnt
  pub mid : Known
  pub looks : HasLooked bounds learnt mid
  pub sends : SendsOver bounds mid (read_walk lock reader (unwrap_or now (last mid.events))) result new

-- What resolving the lock that a session met comes to: where it met none, nothing, and all stays as
-- it was; else the status to which the resolver's walk comes, which the session learns.
abbrev pub ResolvesMet : List Key → Seated → Known → Option LockInfo → Option ℕ → Option Status → Seated → Known
    → Type 0
ResolvesMet bounds old resolver None now found new after = (found ≡ None) × (new ≡ old) × (after ≡ resolver)
ResolvesMet bounds old resolver (Some lock) now found new after = (status : Status) × (found ≡ Some status)
    × Resolves bounds resolver lock old.seat.events old.state.start now status after
    × (new.state ≡ with_passed old.state lock.start (lies_above status old.state.start))
    × HasHeard bounds old.seat after.events new.seat
