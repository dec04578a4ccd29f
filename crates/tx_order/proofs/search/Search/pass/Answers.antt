-- The search once an edge of the last node on its path is passed.
use Rattle.std.proofs.Common.{◌≡◌, length, arith}
use Rattle.std.proofs.lemmas.Grind.{common_steps}
use Rattle.tx_order.proofs.PassedEdges.{passing}
use Rattle.tx_order.proofs.search.Search.pass.Goals as goal

pub returns-clause-search : goal.returns-clause-search
returns-clause-search c =
    let q = c.args.self.now in
    let len : c.len-last.result ≡ length q.path.items = grind (arith, common_steps, c.len-last.ensures) in
    passing c.args.edges.now q.marks.items q.path.items c.len-last.result c.index_mut.result.now q.done len
    c.requires.search c.requires.some c.requires.within c.requires.ended c.index_mut.ensures.value
