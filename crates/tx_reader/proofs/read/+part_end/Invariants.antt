use Rattle.std.proofs.Common.{length}
use Rattle.tx_reader.proofs.read.+part_end.Given as goal

abbrev pub decreases-part_end : goal.decreases-part_end
decreases-part_end l = length l.bounds.now
