use Rattle.std.proofs.Common.{◌≡◌, ◌≤◌, ◌*◌}
use Rattle.tx_core.specs.Histories.{Begins}
use Rattle.tx_transfer.specs.Totals.{HasReadTo}
use Rattle.tx_transfer.proofs.total.read_all.Given as goal

-- the sum up to the next key, of so many pages
abbrev pub invariant-loop-pages : goal.invariant-loop-pages
invariant-loop-pages g l = record {
  start : l.session.state.start ≡ l.fn.session.state.start;
  knows : Begins l.fn.session.seat.events l.session.seat.events;
  read : HasReadTo g.J.JournalId.bounds l.session.seat.events l.fn.session.state.start l.from l.total;
  most : l.total ≤ l.pages * 1024000000000000000;
}
