use Rattle.std.proofs.Common.{◌≡◌}
use Rattle.tx_reader.specs.Readers.{OnlySees}
use Rattle.tx_reader.proofs.reader.Reader.look_past.Given as goal

-- it reads at the same timestamp, and its seat has only seen what others did
abbrev pub invariant-loop : goal.invariant-loop
invariant-loop g l = (l.self.at ≡ l.fn.self.at) × OnlySees l.fn.self.seat l.self.seat
