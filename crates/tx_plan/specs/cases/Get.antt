-- Get: the value of a key at a timestamp.
use Rattle.std.specs.Prelude.{◌≡◌, ℕ, ◌<◌, Option}
use Rattle.tx_types.specs.declared.value.Value.{Value}
use Rattle.tx_plan.specs.declared.body.Get.{Get}
use Rattle.tx_plan.specs.declared.answer.Answer.{Answer}
use Rattle.tx_plan.specs.declared.answer.Answer.TheVariants.{KeyIsLocked, BelowSafePoint, FutureTimestamp}
use Rattle.tx_plan.specs.Tables.{Case, CaseOf}
use Rattle.tx_plan.specs.Cells.{Cells, info_of}
use Rattle.tx_plan.specs.Reads.{Blocks, Reads, read_answer}

-- A read below the safe point or above the last number loaded is refused; a lock that blocks it
-- stops it; else it gives the value that stands at its timestamp, or none.
abbrev pub AnswersGet : Cells → ℕ → ℕ → Get → Answer → Type 0
AnswersGet cells safe loaded b a =
    Case (b.at < safe) (a ≡ BelowSafePoint safe)
    (Case (loaded < b.at) (a ≡ FutureTimestamp loaded)
    (CaseOf (λ lock. Blocks cells.lock b.at b.bypass lock) (λ lock. a ≡ KeyIsLocked (info_of b.key lock))
    ((found : Option Value) × (a ≡ read_answer found) × Reads cells.write b.at found)))
