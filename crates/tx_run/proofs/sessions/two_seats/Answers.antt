use Rattle.std.proofs.Common.{◌+◌, length, arith}
use Rattle.tx_run.proofs.OwnSeats.{two_fresh, two_rest, two_seat}
use Rattle.tx_run.proofs.sessions.two_seats.Goals as goal

pub returns-clause-rest : goal.returns-clause-rest
returns-clause-rest g c =
    two_rest (length g.J.JournalId.bounds + 1) c.args.seats.now.items c.pop.new.self.items c.pop-2.new.self.items
    c.in_ok-seat.seat c.in_ok-resolver.resolver c.in_ok-seat.ensures.items c.in_ok-resolver.ensures.items c.requires

pub returns-clause-two : goal.returns-clause-two
returns-clause-two g c =
    let two = two_seat (length g.J.JournalId.bounds + 1) c.args.seats.now.items c.pop.new.self.items
    c.pop-2.new.self.items c.in_ok-seat.seat c.in_ok-resolver.resolver c.in_ok-seat.ensures.items
    c.in_ok-resolver.ensures.items c.requires in
    (omega (arith, c.in_ok-seat.ensures.len, c.in_ok-resolver.ensures.len), omega (arith, two.0, c.args.seats.now.ok.0))

pub returns-clause-fresh : goal.returns-clause-fresh
returns-clause-fresh g c =
    two_fresh (length g.J.JournalId.bounds + 1) c.args.seats.now.items c.pop.new.self.items c.pop-2.new.self.items
    c.in_ok-seat.seat c.in_ok-resolver.resolver c.in_ok-seat.ensures.items c.in_ok-resolver.ensures.items c.requires
