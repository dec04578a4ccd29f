-- Timestamps would give numbers of the nodes that rise round the cycle.
use Rattle.std.proofs.Common.{ℕ, ◌+◌, ◌*◌}
use Rattle.tx_history.proofs.Numbers.{number, all_rise}
use Rattle.tx_history.proofs.laws.cycles_refuse_assignments.Goals as goal

pub returns : goal.returns
returns c h edges nodes start commit graph cycle a =
    let starts : ℕ → ℕ = λ t. 2 * start t + 1 in
    let commits : ℕ → ℕ = λ t. 2 * commit t in
    c.cycles_refuse_orders.ensures edges nodes (number starts commits)
    (all_rise h edges starts commits graph (c.assignments_are_orders.ensures h start commit a)) cycle
