use Rattle.std.proofs.Common.{◌≡◌}
use Rattle.tx_core.specs.Histories.{Begins}
use Rattle.tx_update.specs.Reads.{SeesOn}
use Rattle.tx_update.proofs.Pages.{AreSoFar}
use Rattle.tx_update.proofs.lent.Lent.pages.Given as goal

-- nothing is entered, the seat knows what it knew, and the rows so far are those up to where the
-- next page begins
abbrev pub invariant-loop : goal.invariant-loop
invariant-loop g l = (l.self.running.state.buffer ≡ l.fn.self.running.state.buffer)
    × Begins l.fn.self.running.seat.events l.self.running.seat.events
    × AreSoFar (SeesOn g.J.JournalId.bounds l.self.running.seat.events g.B.Begun.session.state.start) l.fn.from l.fn.to
    l.next
    l.rows.items
