-- What stands behind the answers of one session.
use Rattle.std.specs.Prelude.{◌≡◌, ◌≢◌, ℕ, [], ◌∷◌, ◌++◌, List, All, Bool, false, Option, Some, Err}
use Rattle.std.specs.List.{AllPairs}
use Rattle.tx_types.specs.declared.key.Key.{Key}
use Rattle.tx_types.specs.declared.fault.Cause.TheVariants.{Order}
use Rattle.tx_core.specs.declared.event.Outcome.{Outcome}
use Rattle.tx_core.specs.declared.event.Event.TheVariants.{Answered}
use Rattle.tx_core.specs.Histories.{History, Among, Begins, drawer}
use Rattle.tx_journal.specs.Known.{Known}
use Rattle.tx_transaction.specs.Sessions.{finish_of}
use Rattle.tx_client.specs.Calls.{HasHeard, Records, Seated}
use Rattle.tx_workload.specs.declared.reply.LineAnswer.{LineAnswer}
use Rattle.tx_workload.specs.declared.reply.LineAnswer.TheVariants.{Plain, Ended}
use Rattle.tx_workload.specs.declared.reply.LineReply.{LineReply}
use Rattle.tx_transfer.specs.Transfers.{IsBetween}
use Rattle.tx_workload.specs.Outcomes.{start_of, AreApart}

-- a log: the seat of its session, what it was told, the answers, and whether one was lost
pub record Logged : Type 0 where
  pub seat : ℕ
  pub told : History
  pub replies : List LineReply
  pub lost : Bool

-- a session of this seat began at the start, and its transaction was answered so; a transfer
-- declared just its two keys
pub record IsAnswered (h : History) (seat start : ℕ) (o : Outcome) (keys : Option (Key × Key)) : Type 0 where
  pub drew : drawer h start ≡ Some seat
  pub among : Among h (Answered start o)
  pub between : IsBetween h start o keys

-- an outcome that a line is told was answered by this seat
abbrev pub StandsBy : History → ℕ → LineAnswer → Type 0
StandsBy h seat (Ended start o keys) = IsAnswered h seat start o keys
StandsBy h seat (Plain plain) = Unit {0}

-- all are, and no two are of one transaction
pub record TellsBy (h : History) (seat : ℕ) (replies : List LineReply) : Type 0 where
  pub told : All (λ s. StandsBy h seat s.answer) replies
  pub apart : AllPairs AreApart replies

-- the answer of the line of this number
abbrev pub answer_to : ℕ → LineAnswer → LineReply
answer_to number answer = record { number = number; answer = answer }

-- a line's answer is kept: where nothing is lost then, nothing had been, and the answers are those
-- before with this one behind
abbrev pub KeepsAnswer : Logged → ℕ → LineAnswer → Logged → Type 0
KeepsAnswer old number answer new =
    new.lost ≡ false → (old.lost ≡ false) × (new.replies ≡ old.replies ++ answer_to number answer ∷ [])

-- the line of this number is the last that was answered, and it was told that its step is out of
-- order
abbrev pub EndsOutOfOrder : ℕ → List LineReply → Type 0
EndsOutOfOrder number replies = (front : List LineReply)
    × (replies ≡ front ++ answer_to number (Plain (Err Order)) ∷ [])

-- some outcome of a line is kept, with these keys
abbrev pub KeepsOutcome : Logged → ℕ → Option (Key × Key) → Logged → Type 0
KeepsOutcome old number keys new = (start : ℕ) × (o : Outcome) × KeepsAnswer old number (Ended start o keys) new

-- no line is told of this transaction
abbrev pub TellsNone : ℕ → List LineReply → Type 0
TellsNone start replies = All (λ s. start_of s.answer ≢ Some start) replies

-- a seat knows what a log was told, and an outcome that the log may tell of next: its own, which no
-- line was told yet
pub record CanTell (l : Logged) (start : ℕ) (o : Outcome) (keys : Option (Key × Key)) (k : Known) : Type 0 where
  pub knows : Begins l.told k.events
  pub answered : IsAnswered k.events l.seat start o keys
  pub fresh : TellsNone start l.replies

-- a session heard what a log was told, and then its transaction was answered so: its seat is free
pub record HasFinished (bounds : List Key) (old : Seated) (told : History) (o : Outcome) (new : Known) : Type 0 where
  pub mid : Known
  pub heard : HasHeard bounds old.seat told mid
  pub is : finish_of old.state ≡ Some o
  pub records : Records bounds mid (Answered old.state.start o) new
