-- What the sender of a request knows by what comes of it.
use Rattle.std.specs.Prelude.{◌≡◌, List, Option, Some, None, Ok, Err}
use Rattle.tx_types.specs.declared.key.Key.{Key}
use Rattle.tx_plan.specs.declared.answer.Answer.{Answer}
use Rattle.tx_core.specs.Histories.{Begins}
use Rattle.tx_journal.specs.Known.{Known, HasSeen}
use Rattle.tx_journal.specs.Replies.{IsGiven}
use Rattle.tx_journal.specs.Senders.{Reached}
use Rattle.tx_transaction.specs.Returns.{Response}
use Rattle.tx_transaction.specs.declared.state.Miss.TheVariants as miss

-- what it comes to for the sender
abbrev pub response_by : Option Answer → Response
response_by None = (Err miss.Fault)
response_by (Some a) = Ok a

abbrev pub response_of : Reached → Response
response_of (Err l) = (Err miss.Lost)
response_of (Ok g) = response_by g.answer

-- a seat learns what a reply tells, which is one that a region gave, and nothing where none came;
-- it makes no event
abbrev pub Learns : List Key → Known → Reached → Known → Type 0
Learns bounds old (Err l) new = new ≡ old
Learns bounds old (Ok g) new =
    (new.seat ≡ old.seat) × (new.ticks ≡ old.ticks) × HasSeen bounds old.seat old.events new.events
    × Begins g.events new.events × IsGiven bounds g
