-- What a Prewrite answers of a free key.
use Rattle.std.specs.Prelude.{◌≡◌, ℕ}
use Rattle.tx_types.specs.declared.mutation.Mode.TheVariants.{Async}
use Rattle.tx_plan.specs.declared.body.Prewrite.{Prewrite}
use Rattle.tx_plan.specs.declared.answer.Answer.{Answer}
use Rattle.tx_plan.specs.declared.answer.Answer.TheVariants.{Prewritten}
use Rattle.tx_plan.specs.Tables.{Case}
use Rattle.tx_plan.specs.cases.Prewrite.{IsWithin}

-- the last cases of the table: an async lock with a minimum of P, where that is asked for and
-- allowed, else a two-phase one
abbrev pub AnswersLock : (ℕ → Type 0) → Prewrite → Answer → Type 0
AnswersLock P b a =
    Case (b.mode ≡ Async) ((m : ℕ) × P m × Case (IsWithin b.max_commit m) (a ≡ Prewritten m) (a ≡ Prewritten 0))
    (a ≡ Prewritten 0)
