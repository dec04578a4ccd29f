-- What becomes of a transaction that is open, and what is told of its commit.
use Rattle.std.specs.Prelude.{◌≡◌, ◌⊎◌, ℕ, List, Option, Some, None, Result, Ok, Err, is_some, true}
use Rattle.tx_types.specs.declared.key.Key.{Key}
use Rattle.tx_core.specs.declared.event.Outcome.{Outcome}
use Rattle.tx_core.specs.declared.event.Outcome.TheVariants.{Committed, ReadOnly, Unknown}
use Rattle.tx_core.specs.declared.event.Event.TheVariants.{Stopped}
use Rattle.tx_journal.specs.Known.{Known}
use Rattle.tx_transaction.specs.declared.state.Terms.{Terms}
use Rattle.tx_transaction.specs.Buffers.{Entries, buffered}
use Rattle.tx_transaction.specs.Sessions.{finish_of}
use Rattle.tx_client.specs.Calls.{Seated, seated, Records}
use Rattle.tx_update.specs.declared.stops.Stop.{Stop}
use Rattle.tx_update.specs.declared.stops.Stop.TheVariants as stops
use Rattle.tx_update.specs.Stops.{IsOwnRefusal}
use Rattle.tx_update.specs.Updates.{IsWithoutEffect, MayHaveDeclared, EndedWith, Wrote}
use Rattle.tx_embed.specs.declared.open_transaction.NotCommitted.{NotCommitted}
use Rattle.tx_embed.specs.declared.open_transaction.NotCommitted.TheVariants as uncommitted

-- this is entered now, and nothing else is new
abbrev pub Enters : Entries → Seated → Seated → Type 0
Enters entered old new = new ≡ seated (record old.state { buffer = entered }) old.seat

-- something was entered of a key
abbrev pub IsEntered : Entries → Key → Type 0
IsEntered entered key = is_some (buffered entered key) ≡ true

-- of a key that is named something was entered
abbrev pub NamesEntered : Entries → Stop → Type 0
NamesEntered entered (stops.Waits key why) = IsEntered entered key
NamesEntered entered (stops.Conflict key) = IsEntered entered key
NamesEntered entered (stops.AlreadyExists key) = IsEntered entered key
NamesEntered entered _ = Unit {0}

-- of the same keys something was entered
abbrev pub KeepsKeys : Entries → Entries → Type 0
KeepsKeys old new = (key : Key) → is_some (buffered new key) ≡ is_some (buffered old key)

-- why a transaction without effect was stopped: by what stopped it, or it was rolled back
abbrev pub told_why : Result (Unit {0}) Stop → Stop
told_why (Err stop) = stop
told_why (Ok x) = stops.RolledBack

-- What is told of an outcome: a commit, that nothing was to be written where nothing stopped it, or
-- that it is not known; else why it was without effect.
abbrev pub TellsOf : Outcome → Result (Unit {0}) Stop → Result (Option ℕ) NotCommitted → Type 0
TellsOf (Committed at) done r = r ≡ Ok (Some at)
TellsOf (Unknown why) done r = r ≡ Err uncommitted.Unknown
TellsOf ReadOnly (Ok x) r = r ≡ Ok None
TellsOf o done r = r ≡ Err (uncommitted.Stopped (told_why done))

-- its fate is not known
abbrev pub IsNotKnown : Outcome → Type 0
IsNotKnown (Unknown why) = Unit {0}
IsNotKnown o = ⊥

module _ (bounds : List Key) (terms : Terms) where
  -- what was entered is what stands declared of the transaction, in what this session has seen
  abbrev pub WroteBy : Seated → Seated → Type 0
  WroteBy old session = Wrote bounds terms old.state.start old.state.buffer old.seat session.seat

  -- it ended so, and what was entered is what stands declared of it
  abbrev pub EndedAllWritten : Seated → Outcome → Known → Type 0
  EndedAllWritten old o new = (ends : EndedWith bounds old.seat old.state.start o new)
      × WroteBy old ends.session

  -- It ended without effect, and this is told to have stopped it: of a key that is told something
  -- was entered; and unless it was itself refused something, as memory, what was entered is what
  -- stands declared of it.
  abbrev pub EndedInVain : Seated → Outcome → Stop → Known → Type 0
  EndedInVain old o stop new = (ends : EndedWith bounds old.seat old.state.start o new) × IsWithoutEffect o
      × NamesEntered old.state.buffer stop × (IsOwnRefusal stop ⊎ WroteBy old ends.session)

  -- What is told of a commit: that it is committed, or that nothing was to be written, of what was
  -- entered, all of it; that it is without effect, and why; or that its fate is not known: `finish`
  -- answers that, or nothing, and then its session is stopped.
  abbrev pub Commits : Seated → Result (Option ℕ) NotCommitted → Known → Type 0
  Commits old (Ok (Some at)) new = EndedAllWritten old (Committed at) new
  Commits old (Ok None) new = EndedAllWritten old ReadOnly new
  Commits old (Err (uncommitted.Stopped stop)) new = (o : Outcome) × EndedInVain old o stop new
  Commits old (Err uncommitted.Unknown) new =
      ((o : Outcome) × EndedWith bounds old.seat old.state.start o new × IsNotKnown o)
      ⊎ ((session : Seated) × MayHaveDeclared old session × (finish_of session.state ≡ None)
      × Records bounds session.seat (Stopped session.seat.seat) new)
