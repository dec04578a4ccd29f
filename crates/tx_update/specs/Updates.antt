-- How a transaction is run over a seat, and how it ends.
use Rattle.std.specs.Prelude.{◌≡◌, ◌≢◌, ◌⊎◌, ◌<◌, ℕ, zero, suc, List, [], ◌∷◌, true, false, Option, Some, None, Result, Ok, Err}
use Rattle.tx_transaction.specs.declared.state.Terms.{Terms}
use Rattle.tx_transaction.specs.Buffers.{Entries}
use Rattle.tx_update.specs.declared.failure.Failure.{Failure}
use Rattle.tx_update.specs.Failures.{TellsOfWork, may_go_further}
use Rattle.tx_types.specs.declared.key.Key.{Key}
use Rattle.tx_core.specs.declared.event.Outcome.{Outcome}
use Rattle.tx_core.specs.declared.event.Outcome.TheVariants as outcome
use Rattle.tx_core.specs.declared.event.Event.{Event}
use Rattle.tx_core.specs.declared.event.Event.TheVariants.{Drawn, Began, Declared, Answered, Stopped, Took}
use Rattle.tx_core.specs.Histories.{History, declared}
use Rattle.tx_core.specs.Recording.{owner}
use Rattle.tx_journal.specs.Known.{Known}
use Rattle.tx_transaction.specs.Sessions.{has_primary, finish_of, declaration}
use Rattle.tx_client.specs.Calls.{Seated, Records, IsDecidedSo, BeganAt, RecordsDeclared}
use Rattle.tx_client.specs.Order.{IsDrawnAfter, CommitsAbove}

-- it was without effect
abbrev pub IsWithoutEffect : Outcome → Type 0
IsWithoutEffect (outcome.Committed c) = ⊥
IsWithoutEffect outcome.Aborted = Unit {0}
IsWithoutEffect (outcome.Unknown why) = ⊥
IsWithoutEffect outcome.ReadOnly = Unit {0}

-- it begins, answers and stops no transaction
abbrev pub AnswersNoEffect : Event → Type 0
AnswersNoEffect (Drawn seat n) = Unit {0}
AnswersNoEffect (Began t) = ⊥
AnswersNoEffect (Declared d) = Unit {0}
AnswersNoEffect (Answered t o) = ⊥
AnswersNoEffect (Stopped seat) = ⊥
AnswersNoEffect (Took x) = Unit {0}

-- h goes on from l, and since then this seat began no transaction, answered of none and stopped
-- none
abbrev pub GoesWithoutEffect : ℕ → History → History → Type 0
GoesWithoutEffect i l [] = l ≡ []
GoesWithoutEffect i l (e ∷ h) = (l ≡ e ∷ h) ⊎ GoesWithoutEffect i l h × ((owner h e ≢ Some i) ⊎ AnswersNoEffect e)

-- a seat goes on within a transaction, or beside one: it has its number, knows what it knew, and
-- has since begun no transaction, answered of none and stopped none
pub record SeatGoesOn (old new : Known) : Type 0 where
  pub number : new.seat ≡ old.seat
  pub knows : GoesWithoutEffect old.seat old.events new.events

-- a session goes on: its seat does, and it is the same transaction, which declares nothing more
pub record Follows (old new : Seated) : Type 0 where
  pub seat : SeatGoesOn old.seat new.seat
  pub start : new.state.start ≡ old.state.start
  pub declared : new.state.declared ≡ old.state.declared
  pub placed : new.state.placed ≡ old.state.placed

-- a session went on from where nothing was declared, and may have declared: the number of that was
-- drawn after what its seat had known
pub record MayHaveDeclared (old new : Seated) : Type 0 where
  pub seat : SeatGoesOn old.seat new.seat
  pub start : new.state.start ≡ old.state.start
  pub placed : (has_primary new.state ≡ false) ⊎ IsDrawnAfter old.seat.events new.seat.events new.state.placed

-- a commit lies above each that is decided in what was known
abbrev pub CommitsAboveKnown : History → Outcome → Type 0
CommitsAboveKnown known (outcome.Committed c) = (u d : ℕ) → IsDecidedSo known u (outcome.Committed d) → d < c
CommitsAboveKnown known outcome.Aborted = Unit {0}
CommitsAboveKnown known (outcome.Unknown why) = Unit {0}
CommitsAboveKnown known outcome.ReadOnly = Unit {0}

-- `finish` answers an outcome of it
abbrev pub HasOutcome : Seated → Type 0
HasOutcome s = finish_of s.state ≢ None

-- nothing was declared of it, or it is decided that it is aborted
abbrev pub CameToNothing : History → ℕ → Type 0
CameToNothing h t = (declared h t ≡ None) ⊎ IsDecidedSo h t outcome.Aborted

-- A session over this seat, which knew `old` when it had begun, has ended: it began at t, has seen
-- more and has this outcome, which the seat recorded; a fate is decided so, without effect is what
-- came to nothing, and a commit is in order, above each that the seat knew to be decided before.
pub record EndedWith (bounds : List Key) (old : Known) (t : ℕ) (end : Outcome) (new : Known) : Type 0 where
  pub session : Seated
  pub seat : SeatGoesOn old session.seat
  pub start : session.state.start ≡ t
  pub outcome : finish_of session.state ≡ Some end
  pub recorded : Records bounds session.seat (Answered t end) new
  pub decided : IsDecidedSo session.seat.events t end
  pub nothing : IsWithoutEffect end → CameToNothing session.seat.events t
  pub in_order : CommitsAbove session.seat.events session.state.placed end
  pub above : CommitsAboveKnown old.events end

-- What was entered was declared under these terms, and the seat went on from there: that is what
-- stands declared of the transaction, and nothing does where nothing was entered.
pub record Wrote (bounds : List Key) (terms : Terms) (start : ℕ) (entered : Entries) (old new : Known) : Type 0 where
  pub placed : ℕ
  pub after : Known
  pub declares : RecordsDeclared bounds old (declaration start placed entered terms) after
  pub goes : SeatGoesOn after new
  pub stands : declared new.events start ≡ declaration start placed entered terms

-- What a try writes, by what its work answered and what stopped it: what the work left entered;
-- where something stopped that, it or nothing; and nothing where the work refused.
abbrev pub Writes : {O E : Type 0} → Result O (Failure E) → Option (Failure E) → Type 0 → Type 0 → Type 0
Writes (Ok answer) None wrote nothing = wrote
Writes (Ok answer) (Some failure) wrote nothing = wrote ⊎ nothing
Writes (Err failure) stop wrote nothing = nothing

module _ {W O E : Type 0} (does : W → Entries → Result O (Failure E) → Entries → W → Type 0)
    (bounds : List Key) (terms : Terms) where
  -- The work was called, once, in a transaction in which nothing was entered; its value is what it
  -- answered. What it left entered, or nothing at all, stands declared of the transaction: that it
  -- left where nothing stopped it, and nothing where it refused.
  pub record Works (begun session : Seated) (value : Option O) (stop : Option (Failure E)) (old new : W) : Type 0 where
    pub answered : Result O (Failure E)
    pub entered : Entries
    pub did : does old [] answered entered new
    pub tells : TellsOfWork answered value stop
    pub before : Known
    pub goes : SeatGoesOn begun.seat before
    pub wrote : Writes answered stop (Wrote bounds terms begun.state.start entered before session.seat)
        (declared session.seat.events begun.state.start ≡ None)

  -- A try that is over and came to nothing: the seat began a transaction, went on within it alone,
  -- and answered of it, of which nothing was declared, or it is decided that it is aborted; and
  -- what stopped it may pass.
  pub record ComesToNothing (old new : Known) (before after_it : W) : Type 0 where
    pub begun : Seated
    pub began : BeganAt bounds old begun.state.start begun.seat
    pub start : ℕ
    pub end : Outcome
    pub ends : EndedWith bounds begun.seat start end new
    pub same : start ≡ begun.state.start
    pub nothing : CameToNothing ends.session.seat.events start
    pub value : Option O
    pub stop : Option (Failure E)
    pub passes : may_go_further end stop ≡ true
    pub works : Works begun ends.session value stop before after_it

  -- so many tries, one after another, came to nothing, and neither the seat nor the work did
  -- anything else
  abbrev pub TriesInVain : ℕ → Known → Known → W → W → Type 0
  TriesInVain zero old new before after_all = (new ≡ old) × (after_all ≡ before)
  TriesInVain (suc n) old new before after_all = (mid : Known) × (between : W) × TriesInVain n old mid before between
      × ComesToNothing mid new between after_all
