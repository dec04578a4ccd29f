-- A line that is told of a lock in its way is told of one that an answer named.
use Rattle.std.proofs.Common.{◌≡◌, inl, inr, ℕ, List, Option, Some, None, Ok, sym, subst, ◌∙◌}
use Rattle.std.specs.Prelude.{length, ◌+◌}
use Rattle.tx_types.specs.declared.key.Key.{Key}
use Rattle.tx_types.specs.declared.lock.LockInfo.{LockInfo}
use Rattle.tx_plan.specs.declared.answer.Answer.TheVariants as answer
use Rattle.tx_core.specs.Histories.{History}
use Rattle.tx_client.specs.Facts.{WasMet}
use Rattle.tx_steps.specs.declared.call.Call.TheVariants as call
use Rattle.tx_steps.specs.declared.step.Step.{Step}
use Rattle.tx_steps.specs.declared.step.Step.TheVariants as step
use Rattle.tx_steps.specs.Steps.{Text}
use Rattle.tx_reply.specs.declared.reply.ScriptReply.TheVariants as reply
use Rattle.tx_evidence.specs.Tells.{Entered, TellsBy}
use Rattle.tx_transfer.specs.declared.plain_reply.PlainReply.{PlainReply}
use Rattle.tx_workload.specs.declared.reply.LineAnswer.TheVariants.{Plain}
use Rattle.tx_workload.specs.declared.reply.LineReply.{LineReply}
use Rattle.tx_workload.specs.Tells.{AnswerTells, EnteredBefore, TellsLine}

module _ (bounds : List Key) (entered : Entered) (h : History) (info : LockInfo) where
  -- a step that is told of a lock in its way
  step_met : (what : Step Text) → TellsBy bounds entered h what (reply.Answered (answer.KeyIsLocked info))
      → WasMet h info
  step_met (step.Begin name) given = given
  step_met (step.Act name act) given = given
  step_met (step.Send name (call.Get key) delivery) (inl own) = absurd own
  step_met (step.Send name (call.Get key) delivery) (inr (at, bypass, was)) = (_, was)
  step_met (step.Send name (call.Scan from to limit) delivery) given = given
  step_met (step.Send name call.Prewrite delivery) given = given
  step_met (step.Send name call.Commit delivery) given = given
  step_met (step.Send name call.Abort delivery) given = given
  step_met (step.Send name (call.Heartbeat ttl) delivery) given = given
  step_met (step.Deliver name) given = given
  step_met (step.Read key at) was = (_, was)
  step_met (step.Versions key) given = given
  step_met (step.Tick n) given = given
  step_met (step.Gc safe) given = given
  step_met (step.Seed key value) given = given
  step_met (step.Transfer name what) given = given

-- A line of a run that is told of a lock in its way is told of one that an answer named.
pub line_met : (source : Option (List ℕ)) (bounds : List Key) (h : History) (s : LineReply) (plain : PlainReply)
    (info : LockInfo) → s.answer ≡ Plain (Ok plain) → plain.reply ≡ reply.Answered (answer.KeyIsLocked info)
    → TellsLine source bounds h s → WasMet h info
line_met source bounds h s plain info is told (said, says, tells) =
    by said (subst (AnswerTells bounds (EnteredBefore source s.number) h said) is tells)
  where
    by : (said : Option (Step Text)) → AnswerTells bounds (EnteredBefore source s.number) h said (Plain (Ok plain))
        → WasMet h info
    by (Some what) (tells, seed) =
        step_met bounds (EnteredBefore source s.number) h info what
        (subst (TellsBy bounds (EnteredBefore source s.number) h what) told tells)
    by None regions =
        let e : reply.Answered (answer.KeyIsLocked info) ≡ reply.Regions (length bounds + 1) = sym told ∙ regions in
        absurd (cc)
