-- What a session does by steps of its own, one after another, where each may be refused.
use Rattle.std.specs.Prelude.{◌≡◌, ◌⊎◌, ◌<◌, ℕ, Bool, true, false, List, Option, Some, None, Result, Ok, Err}
use Rattle.tx_types.specs.declared.key.Key.{Key}
use Rattle.tx_types.specs.declared.value.Value.{Value}
use Rattle.tx_types.specs.declared.fault.Fault.{Fault}
use Rattle.tx_types.specs.declared.fault.Fault.TheVariants as fault
use Rattle.tx_plan.specs.declared.answer.Answer.{Answer}
use Rattle.tx_core.specs.declared.event.Outcome.{Outcome}
use Rattle.tx_core.specs.declared.event.Event.TheVariants.{Answered, Stopped}
use Rattle.tx_journal.specs.Known.{Known}
use Rattle.tx_transaction.specs.declared.state.Miss.{Miss}
use Rattle.tx_transaction.specs.declared.state.Phase.{Phase}
use Rattle.tx_transaction.specs.declared.state.Phase.TheVariants as phase
use Rattle.tx_transaction.specs.declared.state.Terms.{Terms}
use Rattle.tx_transaction.specs.Buffers.{buffered, is_full, put_over, touched}
use Rattle.tx_transaction.specs.Next.{due}
use Rattle.tx_transaction.specs.Sessions.{begun, can_commit, can_draw, declaration, exceeds}
use Rattle.tx_client.specs.Calls.{BeganAt, Draws, Records, RecordsDeclared, Seated, seated}
use Rattle.tx_client.specs.Walks.{due_walk}
use Rattle.tx_transfer.specs.Sends.{SendsOver}

-- whether a step was done, or why it was refused
abbrev pub Came : Type 0
Came = Result (Unit {0}) Fault

-- one step, and where it is done another: what refuses the first ends both
abbrev pub Then : (Seated → Came → Seated → Type 0) → (Seated → Came → Seated → Type 0)
    → Seated → Came → Seated → Type 0
Then F G old came new = ((e : Fault) × (came ≡ Err e) × F old (Err e) new)
    ⊎ ((mid : Seated) × F old (Ok tt) mid × G mid came new)

-- a put enters the buffer, or is refused
abbrev pub Enters : Key → Value → Seated → Came → Seated → Type 0
Enters key value old (Ok u) new = new ≡ seated (record old.state {
  buffer = touched old.state.buffer key (put_over (buffered old.state.buffer key) value);
}) old.seat
Enters key value old (Err e) new = (new ≡ old)
    × ((e ≡ fault.OutOfMemory) ⊎ ((e ≡ fault.TooManyKeys) × (is_full old.state.buffer key ≡ true)))

-- what a request comes to, over a store
abbrev pub sent_by : Result (Option Answer) Miss → Came
sent_by (Ok a) = Ok tt
sent_by (Err why) = Err fault.OutOfMemory

module _ (bounds : List Key) where
  -- a transaction begins at this start
  abbrev pub Begun : Known → Seated → Type 0
  Begun k s = (s.state ≡ begun s.state.start) × BeganAt bounds k s.state.start s.seat

  -- a transaction is left as it is
  abbrev pub Left : Seated → Known → Type 0
  Left s k = Records bounds s.seat (Stopped s.seat.seat) k

  -- a session ends with this outcome, or is left where it has none
  abbrev pub EndsBy : Seated → Option Outcome → Known → Type 0
  EndsBy s None k = Left s k
  EndsBy s (Some o) k = Records bounds s.seat (Answered s.state.start o) k

  -- the buffer is declared under these terms, or is too large for them, or ticks are spent
  abbrev pub DeclaresOr : Terms → Seated → Came → Seated → Type 0
  DeclaresOr terms old (Ok u) new = (exceeds old.state.buffer terms ≡ false)
      × (new.state ≡ record old.state { declared = Some terms; placed = new.state.placed })
      × RecordsDeclared bounds old.seat (declaration old.state.start new.state.placed old.state.buffer terms) new.seat
  DeclaresOr terms old (Err e) new = (new ≡ old)
      × (((e ≡ fault.TooManyKeys) × (exceeds old.state.buffer terms ≡ true))
      ⊎ ((e ≡ fault.OracleSpent) × (old.seat.ticks < 1)))

  -- what is due of a phase is sent, which comes to this
  abbrev pub SendsDue : Phase → Seated → Result (Option Answer) Miss → Seated → Type 0
  SendsDue x old came new =
      SendsOver bounds old.seat (due_walk old.state x (due old.state x)) (new.state, came) new.seat

  -- it is, and whatever is answered, it goes on; where no answer came, memory was refused
  abbrev pub SendsOr : Phase → Seated → Came → Seated → Type 0
  SendsOr x old came new = (answered : Result (Option Answer) Miss) × (came ≡ sent_by answered)
      × SendsDue x old answered new

  -- the timestamp of a commit is drawn, where one may be
  abbrev pub DrewIf : Bool → Seated → Seated → Type 0
  DrewIf false old new = new ≡ old
  DrewIf true old new = (c : ℕ) × (new.state ≡ record old.state { drawn = Some c })
      × Draws bounds old.seat c new.seat

  -- it is, or ticks are spent
  abbrev pub DrawsOr : Seated → Came → Seated → Type 0
  DrawsOr old (Ok u) new = DrewIf (can_draw old.state) old new
  DrawsOr old (Err e) new = (e ≡ fault.OracleSpent) × (can_draw old.state ≡ true) × (old.seat.ticks < 1)
      × (new ≡ old)

  -- what commits is sent, where a commit may be asked
  abbrev pub CommitsIf : Bool → Seated → Came → Seated → Type 0
  CommitsIf false old came new = (came ≡ Err fault.OutOfMemory) × (new ≡ old)
  CommitsIf true old came new = SendsOr phase.Commit old came new

  abbrev pub CommitsOr : Seated → Came → Seated → Type 0
  CommitsOr old came new = CommitsIf (can_commit old.state) old came new
