-- Once all nodes are met and the walk is empty, all are finished.
use Rattle.std.proofs.Common.{arith}
use Rattle.tx_order.proofs.Finished.{all_done}
use Rattle.tx_order.proofs.search.Search.meet_all.Goals as goal

pub returns-clause-ended : goal.returns-clause-ended
returns-clause-ended c same v h =
    let i = c.loop-node.invariant in
    let over = c.loop-node-test.false in
    all_done _ _ _ _ v i.search i.empty (i.met v (omega (arith, over, h)))
