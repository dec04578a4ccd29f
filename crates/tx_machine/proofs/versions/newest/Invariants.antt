use Rattle.std.proofs.Common.{◌≤◌}
use Rattle.tx_machine.specs.Versions.{BareBetween}
use Rattle.tx_machine.proofs.versions.newest.Given as goal

abbrev pub invariant-versions : goal.invariant-versions
invariant-versions l = (l.bound ≤ l.fn.at) × BareBetween l.versions l.fates l.bound l.fn.at

abbrev pub decreases-versions : goal.decreases-versions
decreases-versions l = l.bound
