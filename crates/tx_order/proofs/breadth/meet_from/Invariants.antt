-- What was met are nodes.
use Rattle.std.proofs.Common.{◌<◌, length}
use Rattle.std.specs.List.{All}
use Rattle.tx_order.proofs.breadth.meet_from.Given as goal

abbrev pub invariant-loop-at : goal.invariant-loop-at
invariant-loop-at l = All (λ v. v < length l.fn.by) l.met.items
