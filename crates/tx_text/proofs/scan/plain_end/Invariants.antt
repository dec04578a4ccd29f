use Rattle.std.proofs.Common.{◌≤◌, ◌-◌, length, drop}
use Rattle.std.specs.Prelude.{slice_range}
use Rattle.tx_text.specs.Scan.{Runs}
use Rattle.tx_text.proofs.scan.plain_end.Given as goal

abbrev pub invariant-lanes : goal.invariant-lanes
invariant-lanes l = (l.from ≤ l.at) × (l.at ≤ length l.bytes)
    × Runs (drop l.from l.bytes) (slice_range l.bytes l.from l.at) (drop l.at l.bytes)

abbrev pub decreases-lanes : goal.decreases-lanes
decreases-lanes l = length l.bytes - l.at
