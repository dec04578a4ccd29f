-- How an update ends.
use Rattle.std.specs.Prelude.{◌≡◌, ◌⊎◌, ◌<◌, ◌+◌, ℕ, false, List, Option, None, Result}
use Rattle.tx_types.specs.declared.key.Key.{Key}
use Rattle.tx_journal.specs.Known.{Known}
use Rattle.tx_transaction.specs.Sessions.{finish_of}
use Rattle.tx_client.specs.Calls.{Seated, BeganAt}
use Rattle.tx_transaction.specs.declared.state.Terms.{Terms}
use Rattle.tx_transaction.specs.Buffers.{Entries}
use Rattle.tx_update.specs.declared.failure.Failure.{Failure}
use Rattle.tx_update.specs.declared.ended.Seats.{Seats}
use Rattle.tx_update.specs.declared.ended.Ended.{Ended}
use Rattle.tx_update.specs.declared.ended.Unended.{Unended}
use Rattle.tx_update.specs.declared.ended.Unended.TheVariants as unended
use Rattle.tx_update.specs.declared.stops.Stop.{Stop}
use Rattle.tx_update.specs.Failures.{IsOpenStop, EndsAt, may_go_further}
use Rattle.tx_update.specs.Updates.{SeatGoesOn, EndedWith, TriesInVain, Works, CommitsAboveKnown}

-- the session over this seat ended so, with this value, this stopped it, and the other seat is this
-- one
abbrev pub EndsFrom : {J O E : Type 0} → List Key → Known → Seated → Known → Option O
    → Option (Failure E) → Ended J O E
    → Type 0
EndsFrom bounds begins session resolves value stop e = (ends : EndedWith bounds begins e.start e.outcome e.seats.begins)
    × (ends.session ≡ session) × (e.seats.resolves ≡ resolves) × (e.value ≡ value) × (e.stop ≡ stop)

-- a session that has no outcome is handed back
abbrev pub IsOpen : {J E : Type 0} → Seated → Known → Option (Failure E) → Unended J E → Type 0
IsOpen session resolves stop (unended.Spent seats) = ⊥
IsOpen session resolves stop (unended.Open again same why) = (finish_of session.state ≡ None)
    × (again ≡ session) × (same ≡ resolves) × (why ≡ stop)

module _ {W O E : Type 0} (does : W → Entries → Result O (Failure E) → Entries → W → Type 0)
    (bounds : List Key) (terms : Terms) where
  -- a session began over this seat, the work was done in it, it was itself refused something, which
  -- is told, and it has no outcome
  pub record StaysOpen (last : Known) (session : Seated) (stop : Option (Failure E)) (between new : W) : Type 0 where
    pub begun : Seated
    pub began : BeganAt bounds last begun.state.start begun.seat
    pub seat : SeatGoesOn begun.seat session.seat
    pub start : session.state.start ≡ begun.state.start
    pub value : Option O
    pub works : Works does bounds terms begun session value stop between new
    pub none : finish_of session.state ≡ None
    pub stopped : IsOpenStop stop

-- It was not tried once more: so many tries as may be made again had come to nothing, what stopped
-- the last may not pass, or the work is not to be tried again.
abbrev pub IsLastTry : {J W O E : Type 0} → (W → ℕ → Stop → Type 0) → ℕ → ℕ → Ended J O E → W → Type 0
IsLastTry stops_at again tries e new = (tries ≡ again) ⊎ (may_go_further e.outcome e.stop ≡ false)
    ⊎ EndsAt stops_at new (tries + 1) e.stop

module _ {J W O E : Type 0} (does : W → Entries → Result O (Failure E) → Entries → W → Type 0)
    (bounds : List Key) (terms : Terms) where
  -- How the last try ended, after so many that came to nothing: a transaction began over the seat
  -- that begins and ended so, the work was done in it, and the other seat went on. A commit lies
  -- above each that the seat knew to be decided before the first.
  pub record EndsOver (old : Seats J) (before : W) (tries : ℕ) (e : Ended J O E) (new : W) : Type 0 where
    pub last : Known
    pub between : W
    pub vain : TriesInVain does bounds terms tries old.begins last before between
    pub begun : Seated
    pub began : BeganAt bounds last begun.state.start begun.seat
    pub ends : EndedWith bounds begun.seat e.start e.outcome e.seats.begins
    pub start : e.start ≡ begun.state.start
    pub works : Works does bounds terms begun ends.session e.value e.stop between new
    pub above : CommitsAboveKnown old.begins.events e.outcome
    pub resolves : SeatGoesOn old.resolves e.seats.resolves

  -- nothing ended after so many tries that came to nothing: the seat has no ticks to begin with, or
  -- the session has no outcome
  abbrev pub IsUnended : Seats J → W → ℕ → Unended J E → W → Type 0
  IsUnended old before tries (unended.Spent seats) new =
      TriesInVain does bounds terms tries old.begins seats.begins before new
      × SeatGoesOn old.resolves seats.resolves × (seats.begins.ticks < 1)
  IsUnended old before tries (unended.Open session resolves stop) new = (last : Known) × (between : W)
      × TriesInVain does bounds terms tries old.begins last before between
      × StaysOpen does bounds terms last session stop between new × SeatGoesOn old.resolves resolves
