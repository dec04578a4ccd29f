-- One transaction more.
use Rattle.std.proofs.Common.{◌≡◌, arith}
use Rattle.tx_history.specs.Additions.{IsOwnEdge}
use Rattle.tx_history.proofs.Added.{one_more, up_to, equal_edge}
use Rattle.tx_history.proofs.graph.add_own.Goals as goal

pub loop-txn-preserved : goal.loop-txn-preserved
loop-txn-preserved c = record {
  added = one_more _ _ _ c.loop-txn.txn IsOwnEdge c.loop-txn.invariant.added
      (equal_edge _ _ _ _ c.before-in-loop-txn.ensures c.in_ok-add.ensures.added);
  few = (let old = c.loop-txn.invariant.few in let new = c.in_ok-add.ensures.few in omega (arith, old, new));
}

pub returns-clause-added : goal.returns-clause-added
returns-clause-added c =
    let all : c.loop-txn.txn ≡ c.args.recorded.now.txns = omega arith in
    up_to _ _ c.loop-txn.txn _ IsOwnEdge all c.loop-txn.invariant.added
