use Rattle.std.proofs.Common.{◌≡◌, take}
use Rattle.tx_reader.specs.Readers.{OnlySees}
use Rattle.tx_kv.specs.Views.{SeesEachOn}
use Rattle.tx_kv.proofs.many.found_each.Given as goal

-- it reads at the same timestamp, its seat has only seen what others did, and the values so far are
-- those of the keys so far
abbrev pub invariant-loop-key : goal.invariant-loop-key
invariant-loop-key g l = (l.reader.at ≡ l.fn.reader.at) × OnlySees l.fn.reader.seat l.reader.seat
    × SeesEachOn g.J.JournalId.bounds l.reader.seat.events l.fn.reader.at (take l.key-index l.keys) l.found.items
