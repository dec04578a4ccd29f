use Rattle.std.proofs.Common.{◌≤◌, ◌-◌, length, drop}
use Rattle.tx_text.specs.Scan.{Same}
use Rattle.tx_text.proofs.scan.past_many.Given as goal

abbrev pub invariant-bytes : goal.invariant-bytes
invariant-bytes l = (l.at ≤ length l.bytes) × Same (drop l.from l.bytes) (drop l.at l.bytes)

abbrev pub decreases-bytes : goal.decreases-bytes
decreases-bytes l = length l.bytes - l.at
