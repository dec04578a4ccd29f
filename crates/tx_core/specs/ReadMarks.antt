-- The greatest timestamp that was read in a history.
use Rattle.std.specs.Prelude.{ℕ, max, [], ◌∷◌}
use Rattle.tx_plan.specs.declared.body.Body.{Body}
use Rattle.tx_plan.specs.declared.answer.Answer.{Answer}
use Rattle.tx_plan.specs.Answers.{AnswersFrom, leaves}
use Rattle.tx_core.specs.declared.event.Event.TheVariants.{Took}
use Rattle.tx_core.specs.Histories.{History, left}

-- the greatest timestamp that was read, in whatever region
abbrev pub max_ts : History → ℕ
max_ts [] = 0
max_ts (Took x ∷ h) = max (max_ts h) (leaves (left h x.region) x.body x.answer).max_read
max_ts (_ ∷ h) = max_ts h

-- what the region n, which loaded `loaded`, answers after a history: by the case tables from what
-- its own events left, with the least minimum above each read of the store for an async lock
abbrev pub AnswersNext : History → ℕ → ℕ → Body → Answer → Type 0
AnswersNext h n loaded = AnswersFrom (max_ts h) (left h n) loaded
