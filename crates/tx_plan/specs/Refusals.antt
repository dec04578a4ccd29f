-- Which requests are refused by a number of the region alone.
use Rattle.std.specs.Prelude.{◌≡◌, ◌⊎◌, ℕ, ◌<◌}
use Rattle.tx_types.specs.declared.key.Key.{Key}
use Rattle.tx_plan.specs.declared.body.Scan.{Scan}
use Rattle.tx_plan.specs.declared.body.Collect.{Collect}
use Rattle.tx_plan.specs.declared.answer.Answer.{Answer}
use Rattle.tx_plan.specs.declared.answer.Answer.TheVariants.{BelowSafePoint, FutureTimestamp}
use Rattle.tx_plan.specs.Cells.{Cells, Region}
use Rattle.tx_plan.specs.cases.Scan.{AnswersScan}
use Rattle.tx_plan.specs.cases.Collect.{AnswersCollect}
use Rattle.tx_plan.specs.Answers.{leaves}
use Rattle.tx_plan.specs.declared.body.Body.TheVariants as asked

-- a read lies at the safe point or above, and not above the last number loaded
pub record MayRead (safe loaded at : ℕ) : Type 0 where
  pub kept : at < safe → ⊥
  pub drawn : loaded < at → ⊥

-- a read that does not is refused
abbrev pub RefusesRead : ℕ → ℕ → ℕ → Answer → Type 0
RefusesRead safe loaded at a = ((at < safe) × (a ≡ BelowSafePoint safe))
    ⊎ ((at < safe → ⊥) × (loaded < at) × (a ≡ FutureTimestamp loaded))

-- a refusal of a scan, or of a collection, is the table's answer, and changes nothing
pub record RefusesScan (safe loaded : ℕ) (b : Scan) (a : Answer) : Type 0 where
  pub answers : (cells : Key → Cells) → AnswersScan cells safe loaded b a
  pub stays : (region : Region) → leaves region (asked.Scan b) a ≡ region

pub record RefusesCollect (safe : ℕ) (b : Collect) (a : Answer) : Type 0 where
  pub answers : (cells : Key → Cells) → AnswersCollect cells safe b a
  pub stays : (region : Region) → leaves region (asked.Collect b) a ≡ region
