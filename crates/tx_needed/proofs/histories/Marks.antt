-- A second transaction starts at 3, where the first one commits the same key.
use Rattle.std.proofs.Common.{false, ◌∷◌}
use Rattle.tx_types.specs.declared.mutation.Mutation.TheVariants.{Put}
use Rattle.tx_plan.specs.declared.answer.Answer.TheVariants as reply
use Rattle.tx_plan.specs.Cells.{CommitRecord}
use Rattle.tx_core.specs.declared.event.Declaration.{Declaration}
use Rattle.tx_core.specs.declared.event.Event.TheVariants.{Answered}
use Rattle.tx_core.specs.declared.event.Outcome.TheVariants as outcome
use Rattle.tx_core.specs.Histories.{History}
use Rattle.tx_needed.proofs.Words.{a, x, only, async, begins, took, prewrites, commits, checks_secondary}
use Rattle.tx_needed.proofs.histories.OneKey.{committed_3, settled}

abbrev pub second : Declaration
second = async 3 4 (only a (Put x))

abbrev pub begun : History
begun = begins 2 second committed_3

-- It is missing on the key, which aborts it and leaves a rollback at 3; the first one's record goes
-- there.
abbrev pub missed : History
missed = took (checks_secondary a 3) reply.Missing begun

abbrev pub then_settled : History
then_settled = took (commits a 1 3) (reply.Committed 3) missed

-- The record stands at 3, and there it is missing.
abbrev pub begun_after : History
begun_after = begins 2 second settled

abbrev pub then_missed : History
then_missed = took (checks_secondary a 3) reply.Missing begun_after

-- its prewrite comes late, and its session answers that it is committed
abbrev pub locked_late : History → History
locked_late h = took (prewrites second a) (reply.Prewritten 5) h

abbrev pub answered_late : History → History
answered_late h = Answered 3 (outcome.Committed 5) ∷ locked_late h

-- the commit record at 3
abbrev pub record_3 : CommitRecord
record_3 = record { mutation = Put x; start = 1; overlapped_rollback = false }
