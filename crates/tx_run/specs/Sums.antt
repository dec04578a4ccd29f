-- What the sum of all balances that a run tells was read behind.
use Rattle.std.specs.Prelude.{Option, List, ℕ, All}
use Rattle.tx_core.specs.Histories.{History, Begins}
use Rattle.tx_journal.specs.Known.{Seen}
use Rattle.tx_transfer.specs.Totals.{IsTotal}
use Rattle.tx_workload.specs.Outcomes.{TellsOutcomes}
use Rattle.tx_workload.specs.Tells.{TellsLine}
use Rattle.tx_workload.specs.declared.reply.LineReply.{LineReply}

-- The total was read behind all that the lines are told: each outcome and each reply tells of what
-- had been seen by then, a seed that is told to be done with its commit, and the total is that at a
-- timestamp at or above each commit that was answered there.
pub record SumsBehind (source : Option (List ℕ)) (seen : Seen) (replies : List LineReply) (total : ℕ) : Type 0 where
  pub before : History
  pub begins : Begins before seen.events
  pub told : TellsOutcomes before replies
  pub tells : All (TellsLine source seen.bounds before) replies
  pub sums : IsTotal seen.bounds before seen.events total
