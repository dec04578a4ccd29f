-- Replies that say an outcome.
use Rattle.std.specs.Prelude.{Bool, true, false}
use Rattle.tx_reply.specs.declared.reply.ScriptReply.{ScriptReply}
use Rattle.tx_reply.specs.declared.reply.ScriptReply.TheVariants.{Ended}

-- a reply that says an outcome
abbrev pub says_outcome : ScriptReply → Bool
says_outcome (Ended o) = true
says_outcome _ = false
