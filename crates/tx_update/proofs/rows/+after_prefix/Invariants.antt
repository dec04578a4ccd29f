use Rattle.std.proofs.Common.{length}
use Rattle.tx_update.proofs.rows.+after_prefix.Given as goal

abbrev pub decreases-after_prefix : goal.decreases-after_prefix
decreases-after_prefix l = length l.bytes.now
