-- What contracts see of a client, and what it tells of an update.
use Rattle.std.specs.Prelude.{◌≡◌, ◌≢◌, ◌⊎◌, ◌≤◌, ℕ, List, [], Option, Some, None, Result, Ok, Err}
use Rattle.tx_types.specs.declared.key.Key.{Key}
use Rattle.tx_core.specs.declared.event.Outcome.{Outcome}
use Rattle.tx_core.specs.declared.event.Outcome.TheVariants.{Committed, ReadOnly}
use Rattle.tx_core.specs.declared.event.Outcome.TheVariants as outcome
use Rattle.tx_core.specs.declared.event.Event.TheVariants as event
use Rattle.tx_journal.specs.Known.{known}
use Rattle.tx_transaction.specs.declared.state.Terms.{Terms}
use Rattle.tx_transaction.specs.Buffers.{Entries}
use Rattle.tx_client.specs.Calls.{Records}
use Rattle.tx_update.specs.declared.failure.Failure.{Failure}
use Rattle.tx_update.specs.declared.failure.Failure.TheVariants as failure
use Rattle.tx_update.specs.declared.ended.Seats.{Seats}
use Rattle.tx_update.specs.declared.ended.Ended.{Ended}
use Rattle.tx_update.specs.declared.ended.Unended.{Unended}
use Rattle.tx_update.specs.declared.ended.Unended.TheVariants as unended
use Rattle.tx_update.specs.Updates.{IsWithoutEffect, Wrote}
use Rattle.tx_update.specs.declared.stops.Stop.{Stop}
use Rattle.tx_update.specs.Endings.{EndsOver, IsLastTry, IsUnended}
use Rattle.tx_kv.specs.declared.updated.Updated.{Updated}
use Rattle.tx_kv.specs.declared.updated.NotUpdated.{NotUpdated}
use Rattle.tx_kv.specs.declared.updated.NotUpdated.TheVariants.{Own, Stopped, Unknown, Spent}

-- the seats that a client has between two calls
abbrev pub seats_of : {J : Type 0} → Option (Seats J) → Seats J
seats_of None = record { begins = known 0 0 []; resolves = known 0 0 [] }
seats_of (Some seats) = seats

-- which of how many clients it is: those that run have the numbers from 0 on, and the one that
-- begins and ends has the next
pub record Place : Type 0 where
  pub number : ℕ
  pub clients : ℕ

-- what contracts see of a client: its seats, under which terms it writes, how often it tries again,
-- and which of the clients it is
pub record ClientState (J : Type 0) : Type 0 where
  pub seats : Seats J
  pub terms : Terms
  pub again : ℕ
  pub place : Place

-- it writes under the same terms, tries again as often, and is the same client
abbrev pub KeepsTerms : {J : Type 0} → ClientState J → ClientState J → Type 0
KeepsTerms old new = (new.terms ≡ old.terms) × (new.again ≡ old.again) × (new.place ≡ old.place)

-- it is committed, or it wrote nothing and nothing stopped it
abbrev pub WentWell : {E : Type 0} → Outcome → Option (Failure E) → Type 0
WentWell (Committed c) stop = Unit {0}
WentWell ReadOnly None = Unit {0}
WentWell o stop = ⊥

-- its fate is not known
abbrev pub IsNotKnown : Outcome → Type 0
IsNotKnown (outcome.Unknown why) = Unit {0}
IsNotKnown o = ⊥

-- where it is committed, the work has answered
abbrev pub HasValue : {J O E : Type 0} → Ended J O E → Type 0
HasValue e = (c : ℕ) → e.outcome ≡ Committed c → e.value ≢ None

-- when it was committed, if it was
abbrev pub commit_of : Outcome → Option ℕ
commit_of (Committed c) = Some c
commit_of o = None

-- What is told of how an update ended: its start, its commit, how many tries came to nothing before
-- it, and what the work answered, where it went well; else, where it was without effect, why; and
-- that it is not known where `finish` answered that.
abbrev pub TellsEnd : {J O E : Type 0} → Ended J O E → Result (Updated O) (NotUpdated E) → Type 0
TellsEnd e (Ok u) = (u.start ≡ e.start) × (u.commit ≡ commit_of e.outcome) × (u.retries ≡ e.retries)
    × (Some u.value ≡ e.value) × WentWell e.outcome e.stop
TellsEnd e (Err (Own own)) = IsWithoutEffect e.outcome × (e.stop ≡ Some (failure.Own own))
TellsEnd e (Err (Stopped stop)) = IsWithoutEffect e.outcome
    × ((e.stop ≡ Some (failure.Stopped stop)) ⊎ (e.stop ≡ None))
TellsEnd e (Err (Unknown start)) = (start ≡ e.start) × IsNotKnown e.outcome
TellsEnd e (Err Spent) = ⊥

-- What is told where there is no outcome: that the ticks are spent, or that what becomes of the
-- transaction is not known; its session is stopped.
abbrev pub TellsNoEnd : {J O E : Type 0} → List Key → Unended J E → Result (Updated O) (NotUpdated E) → Seats J → Type 0
TellsNoEnd bounds (unended.Spent seats) (Err Spent) new = new ≡ seats
TellsNoEnd bounds (unended.Open session resolves stop) (Err (Unknown start)) new = (start ≡ session.state.start)
    × Records bounds session.seat (event.Stopped session.seat.seat) new.begins × (new.resolves ≡ resolves)
TellsNoEnd bounds u r new = ⊥

module _ {J W O E : Type 0} (does : W → Entries → Result O (Failure E) → Entries → W → Type 0)
    (stops_at : W → ℕ → Stop → Type 0) (bounds : List Key) where
  -- where it is told that it went well, the work answered so, and what it left entered is what was
  -- declared
  abbrev pub WroteAll : (terms : Terms) (old : Seats J) (before : W) (n : ℕ) (e : Ended J O E) (after_it : W)
      → EndsOver does bounds terms old before n e after_it → Result (Updated O) (NotUpdated E) → Type 0
  WroteAll terms old before n e after_it over (Ok u) = (over.works.answered ≡ Ok u.value)
      × Wrote bounds terms over.begun.state.start over.works.entered over.works.before over.ends.session.seat
  WroteAll terms old before n e after_it over (Err why) = Unit {0}

  -- An update of a client is an update over its seats, under its terms, with at most so many tries
  -- in vain, and no fewer where its work says that it may go on; it tells how that ended, of what
  -- was written where it went well, and has the seats that were handed back.
  abbrev pub Updates : ClientState J → W → Result (Updated O) (NotUpdated E) → ClientState J → W → Type 0
  Updates old before r new after_it = KeepsTerms old new
      × (((e : Ended J O E) × (e.retries ≤ old.again)
      × (over : EndsOver does bounds old.terms old.seats before e.retries e after_it)
      × IsLastTry stops_at old.again e.retries e after_it × TellsEnd e r
      × WroteAll old.terms old.seats before e.retries e after_it over r × (new.seats ≡ e.seats))
      ⊎ ((u : Unended J E) × (n : ℕ) × (n ≤ old.again)
      × IsUnended does bounds old.terms old.seats before n u after_it
      × TellsNoEnd bounds u r new.seats))
