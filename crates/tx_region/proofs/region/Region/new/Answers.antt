use Rattle.tx_region.specs.Regions.{region_of}
use Rattle.tx_region.proofs.TakenRequests.{keeps_first}
use Rattle.tx_region.proofs.region.Region.new.Goals as goal

pub invariant_of-result : goal.invariant_of-result
invariant_of-result g c =
    let r = c.new.result in
    keeps_first g.J.JournalId.bounds c.args.seat (region_of g.F.Holds.content r) r.taken
    (g.F.Holds.numbers r.families) c.requires.seat.0 c.requires.seat.1 c.new.ensures.region c.new.ensures.count
    c.new.ensures.numbers
