-- What the search comes to is an order or a cycle.
use Rattle.std.proofs.Common.{subst, sym}
use Rattle.tx_order.specs.Graphs.{IsOrder, IsCycle}
use Rattle.tx_order.proofs.Ordered.{ordered}
use Rattle.tx_order.proofs.Cycles.{closed}
use Rattle.tx_order.proofs.unordered.order_by_from.Goals as goal

pub returns-in-Some-clause-err : goal.returns-in-Some-clause-err
returns-in-Some-clause-err c =
    let s = c.meet_all.new.self in
    let back = c.in_ok-place.ensures.back c.in-Some.place c.in-Some.is in
    subst (IsCycle c.args.edges.now) (sym c.in_ok-path_from-in-Some.ensures)
    (closed c.args.edges.now s.marks.items s.path.items s.done c.in-Some.place c.in_ok-place.ensures.search back.0
    back.1)

pub returns-clause-ok : goal.returns-clause-ok
returns-clause-ok c =
    let s = c.meet_all.new.self in
    subst (IsOrder c.args.nodes c.args.edges.now) (sym c.in_ok-places-in-None.ensures)
    (ordered c.args.nodes c.args.edges.now s.marks.items s.path.items s.done c.requires.within
    c.in_ok-place.ensures.search c.in_ok-place.ensures.all (c.in_ok-place.ensures.ended c.in-None.is))
