-- What a plan gives, filled in.
use Rattle.std.specs.Prelude.{ℕ, max, Option, Some, None}
use Rattle.tx_types.specs.declared.lock.LockInfo.{LockInfo}
use Rattle.tx_plan.specs.declared.answer.Answer.{Answer}
use Rattle.tx_plan.specs.declared.answer.Answer.TheVariants as answer
use Rattle.tx_plan.specs.declared.planned_answer.PlannedAnswer.{PlannedAnswer}
use Rattle.tx_plan.specs.declared.planned_answer.PlannedAnswer.TheVariants.{Given, KeyIsLocked, Locked}
use Rattle.tx_plan.specs.Cells.{Region, with_max_read}

-- what is told of a lock that has another minimum from now on
abbrev pub info_with_minimum : LockInfo → ℕ → LockInfo
info_with_minimum info min = record info { min = min }

-- the answer of a plan, where this is told of the lock on its key
abbrev pub answer_with : Option LockInfo → PlannedAnswer → Answer
answer_with info (Given a) = a
answer_with (Some info) KeyIsLocked = answer.KeyIsLocked info
answer_with (Some info) (Locked min) = answer.Locked (info_with_minimum info min)
answer_with None KeyIsLocked = answer.TxnLockNotFound
answer_with None (Locked min) = answer.TxnLockNotFound

-- the greatest timestamp read, after a plan
abbrev pub read_upto : Option ℕ → ℕ → ℕ
read_upto None max_read = max_read
read_upto (Some r) max_read = max max_read r

-- a region after a plan that changes no cells
abbrev pub with_read : Region → Option ℕ → Region
with_read region read = with_max_read region (read_upto read region.max_read)
