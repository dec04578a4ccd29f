use Rattle.std.proofs.Common.{◌≡◌}
use Rattle.tx_reader.specs.Readers.{OnlySees}
use Rattle.tx_update.specs.Reads.{SeesOn}
use Rattle.tx_kv.proofs.Sizes.{IsSoFar}
use Rattle.tx_kv.proofs.size.size_between.Given as goal

-- it reads at the same timestamp, its seat has only seen what others did, and the size is that of
-- the rows up to where the next page begins
abbrev pub invariant-loop : goal.invariant-loop
invariant-loop g l = (l.reader.at ≡ l.fn.reader.at) × OnlySees l.fn.reader.seat l.reader.seat
    × IsSoFar (SeesOn g.J.JournalId.bounds l.reader.seat.events l.fn.reader.at) l.fn.from l.fn.to l.next l.size
