-- What the calls of a session make of its state and of its seat.
use Rattle.std.specs.Prelude.{◌≡◌, ℕ, ◌+◌, List, Option, Some, None}
use Rattle.tx_types.specs.declared.key.Key.{Key}
use Rattle.tx_types.specs.declared.mutation.Fate.TheVariants as fate
use Rattle.tx_machine.specs.Machine.{Done}
use Rattle.tx_plan.specs.declared.body.Body.{Body}
use Rattle.tx_core.specs.Decisions.{decided}
use Rattle.tx_core.specs.declared.event.Declaration.{Declaration}
use Rattle.tx_core.specs.declared.event.Outcome.{Outcome}
use Rattle.tx_core.specs.declared.event.Outcome.TheVariants as outcome
use Rattle.tx_core.specs.declared.event.Event.{Event}
use Rattle.tx_core.specs.declared.event.Event.TheVariants.{Began, Declared}
use Rattle.tx_core.specs.Histories.{History, Begins}
use Rattle.tx_core.specs.Recording.{part}
use Rattle.tx_journal.specs.Known.{Known, HasSeen, HasRecorded, HasDrawn}
use Rattle.tx_journal.specs.Replies.{Asked}
use Rattle.tx_transaction.specs.Returns.{Response}
use Rattle.tx_transaction.specs.Buffers.{keys_of}
use Rattle.tx_transaction.specs.Sessions.{SessionState}
use Rattle.tx_journal.specs.Senders.{Reached}
use Rattle.tx_client.specs.Learns.{response_of, Learns}

-- a session: its state, and what its seat knows
pub record Seated : Type 0 where
  pub state : SessionState
  pub seat : Known

abbrev pub seated : SessionState → Known → Seated
seated s k = record { state = s; seat = k }

-- the seat learnt a history, and made no event
pub record HasHeard (bounds : List Key) (old : Known) (told : History) (new : Known) : Type 0 where
  pub number : new.seat ≡ old.seat
  pub ticks : new.ticks ≡ old.ticks
  pub seen : HasSeen bounds old.seat old.events new.events
  pub knows : Begins told new.events
  pub own : part old.seat new.events ≡ part old.seat old.events

-- the seat drew the start by one tick, and then recorded that it began there
pub record BeganAt (bounds : List Key) (old : Known) (start : ℕ) (new : Known) : Type 0 where
  pub mid : History
  pub drew : HasDrawn bounds old.seat old.events 1 start mid
  pub began : HasRecorded bounds old.seat mid (Began start) new.events
  pub number : new.seat ≡ old.seat
  pub ticks : old.ticks ≡ new.ticks + 1

-- the seat recorded one event
pub record Records (bounds : List Key) (old : Known) (e : Event) (new : Known) : Type 0 where
  pub recorded : HasRecorded bounds old.seat old.events e new.events
  pub number : new.seat ≡ old.seat
  pub ticks : new.ticks ≡ old.ticks

-- the seat drew a timestamp by one tick
pub record Draws (bounds : List Key) (old : Known) (c : ℕ) (new : Known) : Type 0 where
  pub drawn : HasDrawn bounds old.seat old.events 1 c new.events
  pub number : new.seat ≡ old.seat
  pub ticks : old.ticks ≡ new.ticks + 1

-- the seat drew the number of a declaration by one tick, and then recorded that it is declared
pub record DeclaredWith (bounds : List Key) (old : Known) (d : Declaration) (new : Known) : Type 0 where
  pub mid : History
  pub drew : HasDrawn bounds old.seat old.events 1 d.drawn mid
  pub recorded : HasRecorded bounds old.seat mid (Declared d) new.events
  pub number : new.seat ≡ old.seat
  pub ticks : old.ticks ≡ new.ticks + 1

-- the seat drew a number and recorded what was declared with it, if anything was
abbrev pub RecordsDeclared : List Key → Known → Option Declaration → Known → Type 0
RecordsDeclared bounds old None new = new ≡ old
RecordsDeclared bounds old (Some d) new = DeclaredWith bounds old d new

module _ {S : Type 0} (sends : S → Asked → Reached → S → Type 0) (bounds : List Key) where
  -- this one request was sent, by one who had seen just what the seat knew, and the seat
  -- learnt what was told
  pub record Asks (old : Known) (body : Body) (from to : S) (c : Response) (new : Known) : Type 0 where
    pub reached : Reached
    pub sent : sends from (record { by = old.events; body = body }) reached to
    pub learns : Learns bounds old reached new
    pub is : c ≡ response_of reached

-- a fate that is answered is decided
abbrev pub IsDecidedSo : History → ℕ → Outcome → Type 0
IsDecidedSo h t (outcome.Committed c) = decided h t ≡ Done (fate.Committed c)
IsDecidedSo h t outcome.Aborted = decided h t ≡ Done fate.Aborted
IsDecidedSo h t (outcome.Unknown why) = Unit {0}
IsDecidedSo h t outcome.ReadOnly = Unit {0}

-- the keys that a session writes stay, and whether they are declared
pub record KeepsSet (old new : SessionState) : Type 0 where
  pub keys : keys_of new.buffer ≡ keys_of old.buffer
  pub declared : new.declared ≡ old.declared
