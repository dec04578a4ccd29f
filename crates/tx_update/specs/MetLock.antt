-- A lock that a session met, resolved by a seat.
use Rattle.std.specs.Prelude.{◌≡◌, ℕ, List}
use Rattle.tx_types.specs.declared.key.Key.{Key}
use Rattle.tx_core.specs.Histories.{History, Begins}
use Rattle.tx_journal.specs.Known.{Known, HasSeen}
use Rattle.tx_journal.specs.Replies.{Asked}
use Rattle.tx_client.specs.declared.resolved.Status.{Status}
use Rattle.tx_journal.specs.Senders.{Reached}
use Rattle.tx_client.specs.Statuses.{Stopping}
use Rattle.tx_client.specs.Walks.{Sends}
use Rattle.tx_resolve.specs.BlockedReads.{read_walk}

-- a seat has learnt what was told: it knows that too, what it knew before, and of its own nothing
-- new
pub record HasLearnt (bounds : List Key) (old : Known) (after_answer : History) (new : Known) : Type 0 where
  pub seat : new.seat ≡ old.seat
  pub ticks : new.ticks ≡ old.ticks
  pub seen : HasSeen bounds old.seat old.events new.events
  pub told : Begins after_answer new.events

module _ {S : Type 0} (sends : S → Asked → Reached → S → Type 0) (bounds : List Key) where
  -- The seat learns of the lock, and then sends exactly the resolver's walk.
  abbrev pub Resolves : Known → S → Stopping → ℕ → ℕ → Status → S → Known → Type 0
  Resolves k from met reader now result to new = (mid : Known) × HasLearnt bounds k met.events mid
      × Sends sends bounds mid from (read_walk met.info reader now) result to new
