use Rattle.std.proofs.Common.{sym, ap, subst, length, arith}
use Rattle.std.specs.Prelude.{All}
use Rattle.tx_region.specs.KeyFronts.{AreFronts}
use Rattle.tx_store.proofs.DealtSeats.{IsRegionSeat, HoldNothing, first_of, rest_of, last_of, front_of, region_seats}
use Rattle.tx_store.proofs.store.Store.new.Goals as goal

pub loop-seat-init : goal.loop-seat-init
loop-seat-init g c =
    let n = length g.J.JournalId.bounds in
    let same = c.into_iter-seat-iterator.ensures.into_iter_gives.0 in
    record {
      made = omega (arith, c.in_ok-regions.ensures.len, ap length same, c.requires.count, c.args.seats.ok.0);
      left = omega (arith, ap length same, c.requires.count, c.args.seats.ok.0);
      seats = subst (All (IsRegionSeat n))
          (sym same) (region_seats c.args.seats.items n (omega (arith, c.requires.count, c.args.seats.ok.0))
          c.requires.dealt);
      empty = c.requires.empty;
    }

pub new-region-requires-clause-seat : goal.new-region-requires-clause-seat
new-region-requires-clause-seat g c =
    let s = first_of (IsRegionSeat (length g.J.JournalId.bounds)) _ _ _ c.in-Some.ensures.steps.0
    c.loop-seat.invariant.seats in
    (s.1, s.0)

pub new-region-requires-clause-empty : goal.new-region-requires-clause-empty
new-region-requires-clause-empty g c =
    last_of (HoldNothing g.F.Holds.content) _ _ _ c.in-Some-pop.ensures.items c.loop-seat.invariant.empty

pub loop-seat-preserved : goal.loop-seat-preserved
loop-seat-preserved g c =
    let step = ap length c.in-Some.ensures.steps.0 in
    record {
      made = omega (arith, c.loop-seat.invariant.made, c.in_ok-push.ensures.len, step);
      left = omega (arith, c.loop-seat.invariant.left, c.in-Some-pop.ensures.len, step);
      seats = rest_of (IsRegionSeat (length g.J.JournalId.bounds)) _ _ _ c.in-Some.ensures.steps.0
          c.loop-seat.invariant.seats;
      empty = front_of (HoldNothing g.F.Holds.content) _ _ _ c.in-Some-pop.ensures.items c.loop-seat.invariant.empty;
    }

pub invariant_of-result-clause-tell : goal.invariant_of-result-clause-tell
invariant_of-result-clause-tell g c =
    subst (λ bounds. AreFronts bounds c.in_ok-fronts.fronts.items) c.bounds.ensures.value c.in_ok-fronts.ensures.ok
