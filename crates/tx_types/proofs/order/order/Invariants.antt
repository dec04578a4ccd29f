use Rattle.std.proofs.Common.{◌≡◌, ◌≤◌, ◌-◌, drop}
use Rattle.std.specs.Ordering.{nat_cmp}
use Rattle.std.specs.Cmp.Lexicographic.{slice_cmp}
use Rattle.tx_types.proofs.order.order.Given as goal

-- what is left orders as the whole
abbrev pub invariant-bytes : goal.invariant-bytes
invariant-bytes l = (l.at ≤ l.both) × (slice_cmp nat_cmp l.a l.b ≡ slice_cmp nat_cmp (drop l.at l.a) (drop l.at l.b))

abbrev pub decreases-bytes : goal.decreases-bytes
decreases-bytes l = l.both - l.at
