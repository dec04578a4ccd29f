-- What stands behind the sum of all balances that a run tells.
use Rattle.std.specs.Prelude.{◌≤◌, ℕ, List, All}
use Rattle.tx_machine.specs.Machine.{table_of}
use Rattle.tx_core.specs.declared.event.Outcome.TheVariants as outcome
use Rattle.tx_types.specs.declared.key.Key.{Key}
use Rattle.tx_core.specs.Histories.{History}
use Rattle.tx_core.specs.Shadow.{shadow}
use Rattle.tx_journal.specs.Known.{Seen}
use Rattle.tx_transfer.specs.Totals.{IsSumOf, least, top}
use Rattle.tx_workload.specs.declared.reply.LineAnswer.{LineAnswer}
use Rattle.tx_workload.specs.declared.reply.LineAnswer.TheVariants.{Ended}
use Rattle.tx_workload.specs.declared.reply.LineReply.{LineReply}

-- a commit that a line is told lies at or below this timestamp
abbrev pub LiesUpTo : ℕ → LineAnswer → Type 0
LiesUpTo at (Ended start (outcome.Committed c) keys) = c ≤ at
LiesUpTo at _ = Unit {0}

-- what was seen of these events
abbrev pub seen_in : List Key → History → Seen
seen_in bounds h = record { bounds = bounds; events = h }

-- The total is the sum of the balances that the one-step machine sees, on all keys that a text can
-- be, at one timestamp, which lies at or above each commit that a line is told.
pub record TellsTotal (seen : Seen) (replies : List LineReply) (total : ℕ) : Type 0 where
  pub at : ℕ
  pub after : All (λ s. LiesUpTo at s.answer) replies
  pub sum : IsSumOf (table_of (shadow seen.events)).row at least top total
