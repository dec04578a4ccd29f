-- What a refusal is told as, and what a reply says.
use Rattle.std.specs.Prelude.{Result, Ok, Err}
use Rattle.tx_types.specs.declared.fault.Cause.{Cause}
use Rattle.tx_types.specs.declared.fault.Fault.{Fault}
use Rattle.tx_types.specs.declared.fault.Fault.TheVariants as fault
use Rattle.tx_reply.specs.declared.reply.ScriptReply.{ScriptReply}
use Rattle.tx_reply.specs.declared.reply.ScriptReply.TheVariants as reply
use Rattle.tx_ops.specs.Calls.{Said}
use Rattle.tx_transfer.specs.declared.plain_reply.PlainReply.{PlainReply}

-- the reply of a refusal; one that no line may meet is told as want of memory
abbrev pub reply_of : Fault → ScriptReply
reply_of fault.KeyLength = reply.KeyLength
reply_of fault.ValueLength = reply.ValueLength
reply_of fault.TooManyKeys = reply.TooManyKeys
reply_of fault.AlreadyExists = reply.AlreadyExists
reply_of fault.OracleSpent = reply.OracleSpent
reply_of _ = reply.OutOfMemory

-- the reply to what may only be refused
abbrev pub reply_by : Result (Unit {0}) Fault → ScriptReply
reply_by (Ok u) = reply.Fine
reply_by (Err e) = reply_of e

-- what a reply says, or why there is none
abbrev pub said_of : Result PlainReply Cause → Said
said_of (Ok plain) = Ok plain.reply
said_of (Err cause) = Err cause
