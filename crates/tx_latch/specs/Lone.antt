-- Commands that need no queue: each asks for one slot, for which no command before it asks. They
-- stand behind those in the queues. Only this crate's own clauses cite it.
use Rattle.std.specs.Prelude.{List, [], ◌∷◌, ◌++◌, map}
use Rattle.tx_latch.specs.Asked.{Command, Distinct, AreFree}
use Rattle.tx_latch.specs.Queues.{BetweenCalls, asked_of}
use Rattle.tx_latch.specs.declared.asked_commands.Lone.{Lone}
use Rattle.tx_latch.specs.declared.asked_commands.AskedCommands.{AskedCommands}

-- the command of one slot
abbrev pub alone : Lone → Command
alone l = record { cid = l.cid; slots = l.slot ∷ [] }

abbrev pub lones : List Lone → List Command
lones ls = map alone ls

-- the list that was asked
abbrev pub all_asked : AskedCommands → List Command
all_asked a = asked_of a.queues ++ lones a.lone.items

-- what holds between calls
pub record KeptAll (a : AskedCommands) : Type 0 where
  pub kept : BetweenCalls a.queues
  pub free : AreFree (asked_of a.queues) (lones a.lone.items)
  pub distinct : Distinct (all_asked a)
