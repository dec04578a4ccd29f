-- What stands behind the outcomes that a run tells.
use Rattle.std.specs.Prelude.{◌≡◌, ℕ, List, All, Option, Some, None}
use Rattle.std.specs.List.{AllPairs}
use Rattle.tx_core.specs.declared.event.Event.TheVariants.{Answered}
use Rattle.tx_core.specs.Histories.{History, Among}
use Rattle.tx_transfer.specs.Transfers.{IsBetween}
use Rattle.tx_workload.specs.declared.reply.LineAnswer.{LineAnswer}
use Rattle.tx_workload.specs.declared.reply.LineAnswer.TheVariants.{Plain, Ended}
use Rattle.tx_workload.specs.declared.reply.LineReply.{LineReply}

-- the outcome that a line is told was answered, of the transaction that started there; a
-- transfer's, with just its two keys
abbrev pub IsTold : History → LineAnswer → Type 0
IsTold h (Ended start o keys) = Among h (Answered start o) × IsBetween h start o keys
IsTold h (Plain plain) = Unit {0}

-- the start of the transaction whose outcome a line is told
abbrev pub start_of : LineAnswer → Option ℕ
start_of (Ended start o keys) = Some start
start_of (Plain plain) = None

-- two lines are not told of one transaction
abbrev pub AreApart : LineReply → LineReply → Type 0
AreApart a b = (start : ℕ) → start_of a.answer ≡ Some start → start_of b.answer ≡ Some start → ⊥

-- each outcome that is told was answered, of a transaction of its own
pub record TellsOutcomes (h : History) (replies : List LineReply) : Type 0 where
  pub told : All (λ s. IsTold h s.answer) replies
  pub apart : AllPairs AreApart replies
