-- The rows of a session's scan over all regions.
use Rattle.std.specs.Prelude.{ℕ, List, Ok}
use Rattle.tx_types.specs.declared.key.Key.{Key}
use Rattle.tx_types.specs.declared.mutation.KeyValue.{KeyValue}
use Rattle.tx_plan.specs.declared.answer.Answer.TheVariants as answer
use Rattle.tx_machine.specs.declared.step.ScanRead.{ScanRead}
use Rattle.tx_machine.specs.Machine.{SeesRows, table_of}
use Rattle.tx_core.specs.Histories.{History, Begins}
use Rattle.tx_core.specs.Shadow.{shadow}
use Rattle.tx_core.specs.Worlds.{IsWorldRun}
use Rattle.tx_journal.specs.Known.{Known}
use Rattle.tx_journal.specs.Replies.{Asked}
use Rattle.tx_transaction.specs.Sessions.{SessionState}
use Rattle.tx_journal.specs.Senders.{Reached}
use Rattle.tx_client.specs.Walks.{Sends, scan_walk}

-- a scan of a range by a session that started at a number, and its rows
abbrev pub scan_at : ℕ → Key → Key → ℕ → List KeyValue → ScanRead
scan_at start from to limit rows = record { from = from; to = to; at = start; limit = limit; rows = rows }

-- Where a session's scan over all regions comes to rows, they are the first `limit` keys of its
-- whole range that a read at its start sees, in every world run that begins with what its seat then
-- knows.
abbrev pub SeesWhole : {S : Type 0} → List Key → (S → Asked → Reached → S → Type 0) → Type 0
SeesWhole {S} bounds sends =
    (old new : Known) (a b : S) (s after : SessionState) (from to : Key) (limit : ℕ) (rows : List KeyValue)
    (h : History)
    → Sends sends bounds old a (scan_walk s bounds from to limit) (after, Ok (answer.Rows rows)) b new
    → Begins new.events h → IsWorldRun bounds h
    → SeesRows (table_of (shadow h)).row (scan_at s.start from to limit rows)
