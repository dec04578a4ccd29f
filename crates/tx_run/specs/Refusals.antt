-- How many lines of a run are told each refusal.
use Rattle.std.specs.Prelude.{List, Ok}
use Rattle.std.specs.List.{fold}
use Rattle.tx_plan.specs.declared.answer.Answer.{Answer}
use Rattle.tx_plan.specs.declared.answer.Answer.TheVariants as answer
use Rattle.tx_reply.specs.declared.reply.ScriptReply.{ScriptReply}
use Rattle.tx_reply.specs.declared.reply.ScriptReply.TheVariants as reply
use Rattle.tx_transfer.specs.declared.refusals.Refusals.{Refusals}
use Rattle.tx_transfer.specs.RequestCounts.{both_of}
use Rattle.tx_workload.specs.declared.reply.LineAnswer.{LineAnswer}
use Rattle.tx_workload.specs.declared.reply.LineAnswer.TheVariants.{Plain}
use Rattle.tx_workload.specs.declared.reply.LineReply.{LineReply}

-- no line is told a refusal
abbrev pub none_told : Refusals
none_told = record {
  key_is_locked = 0;
  write_conflict = 0;
  already_rolled_back = 0;
  txn_lock_not_found = 0;
  commit_ts_expired = 0;
  already_exists = 0;
  below_safe_point = 0;
  resolves = 0;
}

-- one line that is told this of a region, where it is a refusal
abbrev pub answer_refusal : Answer → Refusals
answer_refusal (answer.KeyIsLocked info) = record none_told { key_is_locked = 1 }
answer_refusal (answer.WriteConflict start commit) = record none_told { write_conflict = 1 }
answer_refusal answer.AlreadyRolledBack = record none_told { already_rolled_back = 1 }
answer_refusal answer.TxnLockNotFound = record none_told { txn_lock_not_found = 1 }
answer_refusal (answer.CommitTsExpired least) = record none_told { commit_ts_expired = 1 }
answer_refusal answer.AlreadyExists = record none_told { already_exists = 1 }
answer_refusal (answer.BelowSafePoint safe) = record none_told { below_safe_point = 1 }
answer_refusal _ = none_told

-- one line that is told this: a region's refusal, that its own buffer has a value of the key that
-- is to be inserted, or what became of a lock that was asked after
abbrev pub reply_refusal : ScriptReply → Refusals
reply_refusal (reply.Answered a) = answer_refusal a
reply_refusal reply.AlreadyExists = answer_refusal answer.AlreadyExists
reply_refusal (reply.Status found) = record none_told { resolves = 1 }
reply_refusal _ = none_told

-- one more line; the line of an outcome, or of a fault, is told no refusal
abbrev pub with_line : Refusals → LineAnswer → Refusals
with_line r (Plain (Ok plain)) = both_of r (reply_refusal plain.reply)
with_line r _ = r

-- how many of these lines are told each, as far as 64 bits count it
abbrev pub refusals_in : List LineReply → Refusals
refusals_in lines = fold (λ r s. with_line r s.answer) none_told lines
