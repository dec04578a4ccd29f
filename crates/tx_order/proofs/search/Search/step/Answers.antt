-- Where an edge leads back to the path.
use Rattle.std.proofs.Common.{◌≡◌}
use Rattle.tx_order.specs.declared.search.Mark.TheVariants.{Open}
use Rattle.tx_order.specs.Search.{mark_of}
use Rattle.tx_order.proofs.BackEdges.{closes, within_at, mark_read}
use Rattle.tx_order.proofs.search.Search.step.Goals as goal

pub returns-in-Open-clause-back : goal.returns-in-Open-clause-back
returns-in-Open-clause-back c p same =
    let q = c.args.self.now in
    let mark : mark_of q.marks.items c.in-Some.to ≡ Open c.in-Open.place =
    (let to = within_at _ _ _ _ _ c.requires.nodes c.in-Some.ensures.next.0 c.in-Some.ensures.next.1 in
    mark_read q.marks.items c.in-Some.to c.index.result.now (Open c.in-Open.place) to c.index.ensures c.in-Open.is) in
    closes c.args.edges.now q.marks.items q.path.items q.done c.in-Some.to c.in-Open.place p c.requires.search
    c.in-Some.ensures.next.0 c.in-Some.ensures.next.1 mark same
