-- The words of the replies of a script.
use Rattle.std.specs.Prelude.{ℕ, List, codes, map}
use Rattle.serde_json.specs.Data.{Data, Items, no_items, item, number, unsigned, string, array}
use Rattle.serde_json.specs.View.{items_of}
use Rattle.tx_types.specs.declared.lock.LockInfo.{LockInfo}
use Rattle.tx_types.specs.Locks.{async_min}
use Rattle.tx_plan.specs.declared.answer.Answer.{Answer}
use Rattle.tx_plan.specs.declared.answer.Answer.TheVariants as answer
use Rattle.tx_core.specs.declared.event.Outcome.{Outcome}
use Rattle.tx_core.specs.declared.event.Outcome.TheVariants as outcome
use Rattle.tx_core.specs.declared.event.UnknownCause.{UnknownCause}
use Rattle.tx_core.specs.declared.event.UnknownCause.TheVariants as unknown
use Rattle.tx_client.specs.declared.resolved.Status.{Status as StatusOf}
use Rattle.tx_client.specs.declared.resolved.Status.TheVariants as status
use Rattle.tx_client.specs.declared.resolved.WaitCause.{WaitCause}
use Rattle.tx_client.specs.declared.resolved.WaitCause.TheVariants as wait
use Rattle.tx_reply.specs.declared.reply.ScriptReply.{ScriptReply}
use Rattle.tx_reply.specs.declared.reply.ScriptReply.TheVariants.{Regions, Start, Fine, Done, Drawn, Ended, Answered, Lost, Last, Status, Versions, Collected, OracleSpent, OutOfMemory, KeyLength, ValueLength, TooManyKeys, AlreadyExists}
use Rattle.tx_text.specs.Texts.{text_of}
use Rattle.tx_text.specs.Members.{alone, with_number, row_data}
use Rattle.tx_reply.specs.Words.{mode_word}
use Rattle.tx_reply.specs.Versions.{copy_words}

-- what is told of a lock: key, start, primary, minimum and mode
abbrev pub lock_fields : LockInfo → Items
lock_fields info = item (text_of info.key) (item (number (unsigned info.start)) (item (text_of info.primary)
    (item (number (unsigned info.min)) (item (string (mode_word info.mode)) no_items))))

-- the words of a lock that stands in the way
abbrev pub lock_words : List ℕ → LockInfo → Items
lock_words word info = item (string word) (lock_fields info)

-- the words of a store's answer: what was found or done, or the refusal's number and fields. What
-- no step asks for has none
abbrev pub answer_words : Answer → Items
answer_words (answer.Found v) = item (string (codes "value")) (item (text_of v) no_items)
answer_words answer.Nothing = alone (codes "none")
answer_words (answer.Rows rows) = item (string (codes "rows")) (item (array (items_of (map row_data rows))) no_items)
answer_words (answer.Prewritten m) = with_number (codes "prewritten") m
answer_words (answer.Committed c) = with_number (codes "committed") c
answer_words answer.RolledBack = alone (codes "rolled-back")
answer_words (answer.Ttl ttl) = with_number (codes "ttl") ttl
answer_words answer.Missing = alone (codes "missing")
answer_words (answer.Locked info) = with_number (codes "locked") (async_min info.mode info.min)
answer_words (answer.KeyIsLocked info) = lock_words (codes "E1") info
answer_words (answer.WriteConflict start c) = item (string (codes "E2"))
    (item (number (unsigned start)) (item (number (unsigned c)) no_items))
answer_words answer.AlreadyRolledBack = alone (codes "E3")
answer_words (answer.AlreadyCommitted c) = with_number (codes "E4") c
answer_words (answer.CommitTsExpired min) = with_number (codes "E5") min
answer_words answer.TxnLockNotFound = alone (codes "E6")
answer_words (answer.BelowSafePoint safe) = with_number (codes "E7") safe
answer_words (answer.FutureTimestamp last) = with_number (codes "E8") last
answer_words (answer.LocksRemain info) = lock_words (codes "E9") info
answer_words answer.TxnNotFound = alone (codes "E10")
answer_words answer.AlreadyExists = alone (codes "E17")
answer_words _ = no_items

abbrev pub unknown_word : UnknownCause → List ℕ
unknown_word unknown.Reply = codes "reply"
unknown_word unknown.BelowSafePoint = codes "E7"
unknown_word unknown.OutOfMemory = codes "E12"

abbrev pub outcome_words : Outcome → Items
outcome_words (outcome.Committed c) = with_number (codes "committed") c
outcome_words outcome.Aborted = alone (codes "aborted")
outcome_words (outcome.Unknown c) = item (string (codes "unknown")) (item (string (unknown_word c)) no_items)
outcome_words outcome.ReadOnly = alone (codes "read-only")

-- why a transaction was not resolved
abbrev pub wait_word : WaitCause → List ℕ
wait_word wait.Live = codes "live"
wait_word wait.NotFound = codes "not-found"
wait_word wait.Reply = codes "lost"
wait_word wait.BelowSafePoint = codes "E7"
wait_word wait.OutOfMemory = codes "E12"

-- what became of a transaction whose lock was met
abbrev pub status_words : StatusOf → Items
status_words (status.Committed c) = with_number (codes "committed") c
status_words status.Aborted = alone (codes "aborted")
status_words (status.Pushed m) = with_number (codes "pushed") m
status_words (status.Waiting c) = item (string (codes "waiting")) (item (string (wait_word c)) no_items)

-- how many write records, and how many values of the `default` family, a collection dropped
abbrev pub collected_words : ℕ → ℕ → Items
collected_words records values = item (string (codes "collected"))
    (item (number (unsigned records)) (item (number (unsigned values)) no_items))

-- the words of a reply
abbrev pub reply_words : ScriptReply → Items
reply_words (Regions n) = with_number (codes "regions") n
reply_words (Start t) = with_number (codes "start") t
reply_words Fine = alone (codes "ok")
reply_words Done = alone (codes "done")
reply_words (Drawn t) = with_number (codes "drawn") t
reply_words (Ended o) = item (string (codes "outcome")) (outcome_words o)
reply_words (Answered a) = answer_words a
reply_words Lost = alone (codes "lost")
reply_words (Last t) = with_number (codes "last") t
reply_words (Status s) = item (string (codes "status")) (status_words s)
reply_words (Versions copy) = item (string (codes "versions")) (copy_words copy)
reply_words (Collected records values) = collected_words records values
reply_words OracleSpent = alone (codes "E11")
reply_words OutOfMemory = alone (codes "E12")
reply_words KeyLength = alone (codes "E13")
reply_words ValueLength = alone (codes "E14")
reply_words TooManyKeys = alone (codes "E15")
reply_words AlreadyExists = alone (codes "E17")
