-- What a session of a run makes of a step that resolves the lock it met.
use Rattle.std.specs.Prelude.{◌≡◌, ℕ, List, Some}
use Rattle.tx_types.specs.declared.key.Key.{Key}
use Rattle.tx_types.specs.declared.lock.LockInfo.{LockInfo}
use Rattle.tx_journal.specs.Known.{Known}
use Rattle.tx_transaction.specs.Sessions.{with_passed}
use Rattle.tx_client.specs.declared.resolved.Status.{Status}
use Rattle.tx_client.specs.Calls.{HasHeard, Seated}
use Rattle.tx_client.specs.Statuses.{lies_above}
use Rattle.tx_client.specs.Walks.{Sends}
use Rattle.tx_resolve.specs.BlockedReads.{read_walk}
use Rattle.tx_transfer.specs.Resolutions.{HasLooked}
use Rattle.tx_alone.specs.Ways.{CountsAnswers}

-- A seat resolves the lock that a session met: it hears what the session knows, looks at what has
-- happened, and sends just the resolver's walk over a store, which answers so many requests; the
-- session learns what was found.
pub record ResolvesOver (bounds : List Key) (now : ℕ) (old : Seated) (found : Status) (new : Seated) (answered : ℕ)
    : Type 0 where
  pub lock : LockInfo
  pub met : old.state.met ≡ Some lock
  pub resolver : Known
  pub learnt : Known
  pub learns : HasHeard bounds resolver old.seat.events learnt
  pub mid : Known
  pub looks : HasLooked bounds learnt mid
  pub after : Known
  pub resolves : Sends CountsAnswers bounds mid 0 (read_walk lock old.state.start now) found answered after
  pub state : new.state ≡ with_passed old.state lock.start (lies_above found old.state.start)
  pub heard : HasHeard bounds old.seat after.events new.seat
