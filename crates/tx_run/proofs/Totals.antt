-- The sum of all balances is read after what was told.
use Rattle.std.proofs.Common.{◌≡◌, ℕ, ◌≤◌, List, ap, ◌∙◌}
use Rattle.tx_types.specs.declared.key.Key.{Key}
use Rattle.tx_core.specs.declared.event.Event.TheVariants.{Answered}
use Rattle.tx_core.specs.declared.event.Outcome.TheVariants as outcome
use Rattle.tx_core.specs.Histories.{History, Among}
use Rattle.tx_core.specs.Worlds.{IsWorldRun}
use Rattle.tx_core.proofs.seats.Beginnings.{begins_all}
use Rattle.tx_journal.specs.Known.{Seen}
use Rattle.tx_transfer.specs.Totals.{IsTotal}
use Rattle.tx_workload.specs.declared.reply.LineAnswer.{LineAnswer}
use Rattle.tx_workload.specs.declared.reply.LineAnswer.TheVariants.{Plain, Ended}
use Rattle.tx_workload.specs.declared.reply.LineReply.{LineReply}
use Rattle.tx_workload.specs.Outcomes.{IsTold, TellsOutcomes}
use Rattle.tx_workload.specs.Totals.{LiesUpTo, TellsTotal, seen_in}

lies_upto : (before : History) (at : ℕ) → ((t c : ℕ) → Among before (Answered t (outcome.Committed c)) → c ≤ at)
    → (answer : LineAnswer) → IsTold before answer → LiesUpTo at answer
lies_upto before at above (Ended start (outcome.Committed c) keys) told = above start c told.0
lies_upto before at above (Ended start outcome.Aborted keys) told = tt
lies_upto before at above (Ended start (outcome.Unknown why) keys) told = tt
lies_upto before at above (Ended start outcome.ReadOnly keys) told = tt
lies_upto before at above (Plain plain) told = tt

pub tells_total : (bounds : List Key) (before known : History) (replies : List LineReply) (total : ℕ)
    → TellsOutcomes before replies → IsWorldRun bounds known → IsTotal bounds before known total
    → TellsTotal (seen_in bounds known) replies total
tells_total bounds before known replies total told run is = record {
  at = is.at;
  after = λ k d lt. lies_upto before is.at is.above _ (told.told k d lt);
  sum = is.sums known (begins_all known) run;
}

-- what was seen is of these keys and events
pub seen_is : (seen : Seen) (bounds : List Key) (h : History) → seen.bounds ≡ bounds → seen.events ≡ h
    → seen ≡ seen_in bounds h
seen_is seen bounds h keys events = ap (λ (b : List Key). seen_in b seen.events) keys
    ∙ ap (λ (e : History). seen_in bounds e) events
