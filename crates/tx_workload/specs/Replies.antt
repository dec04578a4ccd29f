-- Answers in parts.
use Rattle.std.specs.Prelude.{List, [], ◌∷◌, ◌++◌, Vec}
use Rattle.std.specs.declared.alloc.Global.{Global}
use Rattle.tx_workload.specs.declared.reply.LineReply.{LineReply}

-- all answers, part behind part
abbrev pub all_of : List (Vec LineReply Global) → List LineReply
all_of [] = []
all_of (part ∷ parts) = part.items ++ all_of parts
