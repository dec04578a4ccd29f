use Rattle.std.proofs.Common.{subst, ◌∙◌}
use Rattle.tx_core.proofs.seats.Beginnings.{begins_more, extends_begins}
use Rattle.tx_journal.specs.Known.{Known, HasSeen}
use Rattle.tx_journal.proofs.Calls.{seen_more}
use Rattle.tx_region.specs.Regions.{region_of}
use Rattle.tx_region.specs.TakenRequests.{Loads}
use Rattle.tx_region.proofs.TakenRequests.{keeps_seen}
use Rattle.tx_region.proofs.region.Region.load_after.Goals as goal

pub invariant_of-self : goal.invariant_of-self
invariant_of-self g c =
    let bounds = g.J.JournalId.bounds in
    let s = c.self.inside in
    let n = s.seat.seat in
    let learnt = c.learn.new.self.events in
    let point = c.last-last.new.self.events in
    let marked = c.load_mark-mark.new.seat.events in
    let one = c.learn.ensures.same.0 in
    let two = c.last-last.ensures.same.0 ∙ one in
    let number = c.load_mark-mark.ensures.same.0 ∙ two in
    let here = seen_more bounds n s.seat.events learnt point c.learn.ensures.seen
    (subst (λ m. HasSeen bounds m learnt point) one c.last-last.ensures.seen) in
    let there = seen_more bounds n s.seat.events point marked here
    (subst (λ m. HasSeen bounds m point marked) two c.load_mark-mark.ensures.seen) in
    keeps_seen bounds s.seat c.load_mark-mark.new.seat
    (region_of g.F.Holds.content s.records) s.records.taken (g.F.Holds.numbers s.records.families) c.self.invariant
    number there.extends

pub returns-clause-seen : goal.returns-clause-seen
returns-clause-seen g c =
    let bounds = g.J.JournalId.bounds in
    let s = c.self.inside in
    let n = s.seat.seat in
    let learnt = c.learn.new.self.events in
    let point = c.last-last.new.self.events in
    let marked = c.load_mark-mark.new.seat.events in
    let one = c.learn.ensures.same.0 in
    let two = c.last-last.ensures.same.0 ∙ one in
    let here = seen_more bounds n s.seat.events learnt point c.learn.ensures.seen
    (subst (λ m. HasSeen bounds m learnt point) one c.last-last.ensures.seen) in
    let there = seen_more bounds n s.seat.events point marked here
    (subst (λ m. HasSeen bounds m point marked) two c.load_mark-mark.ensures.seen) in
    subst (λ (k : Known). HasSeen bounds k.seat k.events marked) c.self.view_is there

pub returns-clause-loads : goal.returns-clause-loads
returns-clause-loads g c =
    let bounds = g.J.JournalId.bounds in
    let s = c.self.inside in
    let n = s.seat.seat in
    let learnt = c.learn.new.self.events in
    let point = c.last-last.new.self.events in
    let marked = c.load_mark-mark.new.seat.events in
    let one = c.learn.ensures.same.0 in
    let two = c.last-last.ensures.same.0 ∙ one in
    let m = c.load_mark-mark.ensures in
    let body = c.args.body.now in
    let mark = c.load_mark-mark.result in
    let here = seen_more bounds n s.seat.events learnt point c.learn.ensures.seen
    (subst (λ i. HasSeen bounds i learnt point) one c.last-last.ensures.seen) in
    let on = subst (λ i. HasSeen bounds i point marked) two m.seen in
    let heard = c.args.heard in
    let loads : Loads bounds n s.seat.events heard body c.last-last.result mark marked = record {
      point = point;
      here = here;
      heard = begins_more heard learnt point c.learn.ensures.told
          (extends_begins c.learn.new.self.seat learnt point c.last-last.ensures.seen.extends);
      is_last = c.last-last.ensures.last.0;
      on = on;
      is_mark = m.mark;
      low = (c.last-last.ensures.last.1, m.low);
    } in
    subst (λ (k : Known). Loads bounds k.seat k.events heard body c.last-last.result mark marked)
    c.self.view_is loads
