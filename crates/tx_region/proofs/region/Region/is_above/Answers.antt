use Rattle.tx_region.specs.Regions.{region_of}
use Rattle.tx_region.proofs.TakenRequests.{keeps_seen}
use Rattle.tx_region.proofs.region.Region.is_above.Goals as goal

pub invariant_of-self : goal.invariant_of-self
invariant_of-self g c =
    let s = c.self.inside in
    keeps_seen g.J.JournalId.bounds s.seat c.lies_above.new.seat (region_of g.F.Holds.content s.records) s.records.taken
    (g.F.Holds.numbers s.records.families) c.self.invariant c.lies_above.ensures.same.0
    c.lies_above.ensures.seen.extends
