-- With which keys an outcome of a line is told.
use Rattle.std.specs.Prelude.{ℕ, List, Option}
use Rattle.tx_transfer.specs.Sources.{HasPair}
use Rattle.tx_workload.specs.declared.reply.LineAnswer.{LineAnswer}
use Rattle.tx_workload.specs.declared.reply.LineAnswer.TheVariants.{Plain, Ended}
use Rattle.tx_workload.specs.declared.reply.LineReply.{LineReply}

-- an outcome of this line is told with the keys of the transfer that the line says, or with none
abbrev pub SaysPair : Option (List ℕ) → ℕ → LineAnswer → Type 0
SaysPair text number (Ended start o keys) = HasPair text number keys
SaysPair text number (Plain plain) = Unit {0}

-- an outcome is told with the keys of the transfer that its line says, or with none
abbrev pub TellsPair : Option (List ℕ) → LineReply → Type 0
TellsPair text s = SaysPair text s.number s.answer
