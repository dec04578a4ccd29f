-- What is counted of a run's requests.
use Rattle.std.specs.Prelude.{ℕ, ◌+◌, ◌-◌, ◌^◌, min, Option, Some, None, Ok, Err}
use Rattle.tx_plan.specs.declared.answer.Answer.{Answer}
use Rattle.tx_plan.specs.declared.answer.Answer.TheVariants as answer
use Rattle.tx_journal.specs.Senders.{Reached}
use Rattle.tx_transfer.specs.declared.refusals.Refusals.{Refusals}

-- a sum, as far as 64 bits hold it
abbrev pub sum_of : ℕ → ℕ → ℕ
sum_of x y = min (x + y) (2 ^ 64 - 1)

-- the sum of each count of two runs' requests
abbrev pub both_of : Refusals → Refusals → Refusals
both_of a b = record {
  key_is_locked = sum_of a.key_is_locked b.key_is_locked;
  write_conflict = sum_of a.write_conflict b.write_conflict;
  already_rolled_back = sum_of a.already_rolled_back b.already_rolled_back;
  txn_lock_not_found = sum_of a.txn_lock_not_found b.txn_lock_not_found;
  commit_ts_expired = sum_of a.commit_ts_expired b.commit_ts_expired;
  already_exists = sum_of a.already_exists b.already_exists;
  below_safe_point = sum_of a.below_safe_point b.below_safe_point;
  resolves = sum_of a.resolves b.resolves;
}

-- one more request with this answer, where it is a refusal
abbrev pub with_answer : Refusals → Answer → Refusals
with_answer r (answer.KeyIsLocked info) = record r { key_is_locked = sum_of r.key_is_locked 1 }
with_answer r (answer.WriteConflict start commit) = record r { write_conflict = sum_of r.write_conflict 1 }
with_answer r answer.AlreadyRolledBack = record r { already_rolled_back = sum_of r.already_rolled_back 1 }
with_answer r answer.TxnLockNotFound = record r { txn_lock_not_found = sum_of r.txn_lock_not_found 1 }
with_answer r (answer.CommitTsExpired least) = record r { commit_ts_expired = sum_of r.commit_ts_expired 1 }
with_answer r answer.AlreadyExists = record r { already_exists = sum_of r.already_exists 1 }
with_answer r (answer.BelowSafePoint safe) = record r { below_safe_point = sum_of r.below_safe_point 1 }
with_answer r _ = r

-- what a request was answered, if it was
abbrev pub with_maybe : Refusals → Option Answer → Refusals
with_maybe r (Some a) = with_answer r a
with_maybe r None = r

-- what came of a request
abbrev pub with_reached : Refusals → Reached → Refusals
with_reached r (Ok g) = with_maybe r g.answer
with_reached r (Err l) = r
