use Rattle.std.proofs.Common.{◌≡◌, take}
use Rattle.tx_core.specs.Histories.{Begins}
use Rattle.tx_update.specs.Reads.{FindsEachOn}
use Rattle.tx_update.proofs.lent.Lent.find_each.Given as goal

-- nothing is entered, the seat knows what it knew, and the values so far are those of the keys so
-- far
abbrev pub invariant-loop-key : goal.invariant-loop-key
invariant-loop-key g l = (l.self.running.state.buffer ≡ l.fn.self.running.state.buffer)
    × Begins l.fn.self.running.seat.events l.self.running.seat.events
    × FindsEachOn g.J.JournalId.bounds l.fn.self.running.state.buffer l.self.running.seat.events
    g.B.Begun.session.state.start (take l.key-index l.keys) l.found.items
