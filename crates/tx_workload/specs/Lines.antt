-- The text of what a run answers.
use Rattle.std.specs.Prelude.{ℕ, List, Ok, Err}
use Rattle.serde_json.specs.Data.{Items}
use Rattle.tx_reply.specs.declared.reply.ScriptReply.TheVariants as line
use Rattle.tx_reply.specs.Replies.{reply_words}
use Rattle.tx_text.specs.Members.{reply_text}
use Rattle.tx_text.specs.Faults.{fault_words}
use Rattle.tx_workload.specs.declared.reply.LineAnswer.{LineAnswer}
use Rattle.tx_workload.specs.declared.reply.LineAnswer.TheVariants.{Plain, Ended}
use Rattle.tx_workload.specs.declared.reply.LineReply.{LineReply}

-- the words of an answer
abbrev pub words_of : LineAnswer → Items
words_of (Plain (Ok plain)) = reply_words plain.reply
words_of (Plain (Err cause)) = fault_words cause
words_of (Ended start o keys) = reply_words (line.Ended o)

-- the line of an answer
abbrev pub line_of : LineReply → List ℕ
line_of s = reply_text (s.number, words_of s.answer)
