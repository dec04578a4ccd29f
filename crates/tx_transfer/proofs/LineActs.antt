-- What a session does by a line, and what its line is told.
use Rattle.std.proofs.Common.{◌≡◌, ◌≢◌, ℕ, false, List, Result, Ok, Err, refl, ap}
use Rattle.std.specs.Prelude.{IfOk}
use Rattle.std.specs.Borrow.{Bor}
use Rattle.tx_types.specs.declared.key.Key.{Key}
use Rattle.tx_journal.specs.Known.{Known}
use Rattle.tx_client.specs.Calls.{Seated}
use Rattle.tx_steps.specs.Steps.{Text, acted}
use Rattle.tx_steps.specs.declared.op.Op.{Op}
use Rattle.tx_steps.specs.declared.op.Op.TheVariants as op
use Rattle.tx_reply.specs.declared.reply.ScriptReply.{ScriptReply}
use Rattle.tx_reply.specs.declared.reply.ScriptReply.TheVariants as reply
use Rattle.tx_ops.specs.Acts.{Does}
use Rattle.tx_ops.specs.Calls.{Said}
use Rattle.tx_ops.proofs.Answered.{IsAnswered}
use Rattle.tx_transfer.specs.Acts.{Acts}
use Rattle.tx_transfer.specs.PlainReplies.{says_outcome}

-- a reply says no outcome
abbrev pub IsPlain : ScriptReply → Type 0
IsPlain said = says_outcome said ≡ false

-- what resolves no lock leaves the seat that resolves as it was
module _ (bounds : List Key) (old new : Seated) (resolver after : Known) (stays : after ≡ resolver) (said : Said) where
  pub acts_alone : (what : Op (Bor Text)) → ((now : ℕ) → what ≡ op.Resolve now → ⊥)
      → Does bounds (acted what) old said new → Acts bounds (acted what) old resolver said new after
  acts_alone (op.Put key value) none does = (does, stays)
  acts_alone (op.Insert key value) none does = (does, stays)
  acts_alone (op.Delete key) none does = (does, stays)
  acts_alone (op.Lock key) none does = (does, stays)
  acts_alone (op.Declare mode ttl most) none does = (does, stays)
  acts_alone op.Draw none does = (does, stays)
  acts_alone op.Finish none does = (does, stays)
  acts_alone op.Stop none does = (does, stays)
  acts_alone (op.Resolve now) none does = absurd (none now refl)

-- what is answered is not lost
pub never_lost : (said : Said) → IfOk said IsAnswered → said ≢ Ok reply.Lost
never_lost (Ok reply.Lost) is e = is
never_lost (Ok _) is e = cc e
never_lost (Err c) is e = cc e
