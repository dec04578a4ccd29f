use Rattle.std.proofs.Common.{length, ap, arith}
use Rattle.tx_store.proofs.DealtSeats.{are_dealt, dealt_in_front}
use Rattle.tx_store.proofs.seats.split_seats.Goals as goal

-- the seats of the regions are those that were dealt first
pub returns-clause-dealt : goal.returns-clause-dealt
returns-clause-dealt g c =
    let seats = c.args.seats.items in
    let all = are_dealt seats g.J.JournalId.seats 4294967296 (omega (arith, c.requires.count.0, c.args.seats.ok.0))
    c.requires.each in
    dealt_in_front seats _ (omega (
      arith,
      ap length c.bounds.ensures.value,
      c.requires.count.0,
      c.requires.count.1,
      c.args.seats.ok.0,
    )) all c.split_off.new.self.items
    c.in_ok-sessions.ensures.items
