use Rattle.std.proofs.Common.{◌≡◌, None, inl, inr, ℕ, ap}
use Rattle.tx_plan.specs.declared.answer.Answer.{Answer}
use Rattle.tx_plan.specs.declared.body.RaiseSafe.{RaiseSafe}
use Rattle.tx_plan.specs.cases.RaiseSafe.{AnswersRaiseSafe}
use Rattle.tx_journal.specs.Replies.{lock_in}
use Rattle.tx_region.proofs.records.Records.raise_safe.Goals as goal

-- a safe point that rises or not meets no lock
meets_none : (safe loaded : ℕ) (b : RaiseSafe) (a : Answer) → AnswersRaiseSafe safe loaded b a → lock_in a ≡ None
meets_none safe loaded b a (inl x) = ap lock_in x.1
meets_none safe loaded b a (inr (upto, inl x)) = ap lock_in x.1
meets_none safe loaded b a (inr (upto, inr is)) = ap lock_in is.1

pub returns-clause-unlocked : goal.returns-clause-unlocked
returns-clause-unlocked g c =
    meets_none c.args.self.now.safe c.args.loaded c.args.body.now c.plan_raise_safe-answer.result.answer
    c.plan_raise_safe-answer.ensures.answer
