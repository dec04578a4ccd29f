use Rattle.std.proofs.Common.{◌+◌, length, ap, arith}
use Rattle.tx_engine.proofs.Dealt.{dealt_all}
use Rattle.tx_script.proofs.simulation.engine_over.Goals as goal

pub engine_of-requires-clause-dealt : goal.engine_of-requires-clause-dealt
engine_of-requires-clause-dealt g c = dealt_all c.in-Ok.seats.items g.J.JournalId.seats (omega (
  arith,
  c.in-Ok.ensures.count,
  c.in-Ok.seats.ok.0,
)) c.in-Ok.ensures.seats
