use Rattle.std.proofs.Common.{◌≡◌}
use Rattle.tx_core.specs.Histories.{Begins}
use Rattle.tx_update.proofs.lent.Lent.find_on.Given as goal

-- nothing is entered, and the seat knows what it knew
abbrev pub invariant-loop : goal.invariant-loop
invariant-loop g l = (l.self.running.state.buffer ≡ l.fn.self.running.state.buffer)
    × Begins l.fn.self.running.seat.events l.self.running.seat.events
