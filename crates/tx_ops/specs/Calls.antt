-- What a session sends by a line, and what the line is told.
use Rattle.std.specs.Prelude.{◌&&◌, Bool, true, false, List, Option, Some, None, Result, Ok, Err}
use Rattle.tx_types.specs.declared.key.Key.{Key}
use Rattle.tx_types.specs.declared.fault.Cause.{Cause}
use Rattle.tx_types.specs.declared.fault.Cause.TheVariants.{Order}
use Rattle.tx_types.specs.Lengths.{is_key}
use Rattle.tx_plan.specs.declared.answer.Answer.{Answer}
use Rattle.tx_transaction.specs.declared.state.Miss.{Miss}
use Rattle.tx_transaction.specs.declared.state.Miss.TheVariants as miss
use Rattle.tx_transaction.specs.declared.state.Phase.TheVariants as phase
use Rattle.tx_transaction.specs.Sessions.{SessionState, is_declared, can_commit, can_abort, has_primary, due_prewrite, due_commit, due_abort}
use Rattle.tx_client.specs.Walks.{Walk, grows, ends, then_walk, get_walk, scan_walk, due_walk, heartbeat_walk}
use Rattle.tx_steps.specs.Steps.{Text}
use Rattle.tx_steps.specs.declared.call.Call.{Call}
use Rattle.tx_steps.specs.declared.call.Call.TheVariants as call
use Rattle.tx_reply.specs.declared.reply.ScriptReply.{ScriptReply}
use Rattle.tx_reply.specs.declared.reply.ScriptReply.TheVariants as reply

-- what a line is told, or why its step is not allowed
abbrev pub Said : Type 0
Said = Result ScriptReply Cause

-- ---- replies

-- the reply where a request had no answer
abbrev pub missed_reply : Miss → ScriptReply
missed_reply miss.Lost = reply.Lost
missed_reply miss.Fault = reply.OutOfMemory

-- the reply of a read
abbrev pub read_reply : Result Answer Miss → ScriptReply
read_reply (Ok a) = reply.Answered a
read_reply (Err m) = missed_reply m

-- the reply of a request that may have had nothing due
abbrev pub sent_reply : Result (Option Answer) Miss → ScriptReply
sent_reply (Ok None) = reply.Done
sent_reply (Ok (Some a)) = reply.Answered a
sent_reply (Err m) = missed_reply m

-- ---- calls: each comes to the session's state, and to what the line is told

-- what a call sends
abbrev pub CallWalk : Type 0
CallWalk = Walk (SessionState × Said)

-- a read of keys, which get memory of their own first; where a key is of no or too many bytes,
-- nothing is sent
abbrev pub read_call : Bool → SessionState → Walk (SessionState × Result Answer Miss) → CallWalk
read_call false s walk = ends (s, Ok reply.KeyLength)
read_call true s walk = grows (then_walk walk (λ x. ends (x.0, Ok (read_reply x.1)))) (ends (s, Ok reply.OutOfMemory))

-- a request that the session's state allows, or not: nothing is sent then
abbrev pub allowed_call : Bool → SessionState → Walk (SessionState × Result (Option Answer) Miss) → CallWalk
allowed_call false s walk = ends (s, Err Order)
allowed_call true s walk = then_walk walk (λ x. ends (x.0, Ok (sent_reply x.1)))

-- what each call sends
abbrev pub call_walk : List Key → SessionState → Call Text → CallWalk
call_walk bounds s (call.Get key) = read_call (is_key key) s (get_walk s key)
call_walk bounds s (call.Scan from to limit) =
    read_call (is_key from && is_key to) s (scan_walk s bounds from to limit)
call_walk bounds s call.Prewrite = allowed_call (is_declared s) s (due_walk s phase.Prewrite (due_prewrite s))
call_walk bounds s call.Commit = allowed_call (can_commit s) s (due_walk s phase.Commit (due_commit s))
call_walk bounds s call.Abort = allowed_call (can_abort s) s (due_walk s phase.Abort (due_abort s))
call_walk bounds s (call.Heartbeat ttl) = allowed_call (has_primary s) s (heartbeat_walk s ttl)
