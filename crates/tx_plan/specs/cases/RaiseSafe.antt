-- RaiseSafe: a region's safe point rises.
use Rattle.std.specs.Prelude.{◌≡◌, ℕ, ◌<◌}
use Rattle.tx_plan.specs.declared.body.RaiseSafe.{RaiseSafe}
use Rattle.tx_plan.specs.declared.answer.Answer.{Answer}
use Rattle.tx_plan.specs.declared.answer.Answer.TheVariants.{Raised, BelowSafePoint, FutureTimestamp}
use Rattle.tx_plan.specs.Tables.{Case}

-- A safe point above the last number loaded, or below the region's, is refused.
abbrev pub AnswersRaiseSafe : ℕ → ℕ → RaiseSafe → Answer → Type 0
AnswersRaiseSafe safe loaded b a =
    Case (loaded < b.safe) (a ≡ FutureTimestamp loaded)
    (Case (b.safe < safe) (a ≡ BelowSafePoint safe)
    (a ≡ Raised))
