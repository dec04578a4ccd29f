-- One version more.
use Rattle.std.proofs.Common.{arith}
use Rattle.tx_history.specs.Additions.{IsVersionEdge}
use Rattle.tx_history.proofs.Added.{one_more}
use Rattle.tx_history.proofs.graph.add_versions.Goals as goal

pub loop-i-preserved : goal.loop-i-preserved
loop-i-preserved c = record {
  added = one_more _ _ _ c.loop-i.i (IsVersionEdge c.args.writers.now) c.loop-i.invariant.added
      c.in_ok-add_version.ensures.added;
  few = (let old = c.loop-i.invariant.few in let new = c.in_ok-add_version.ensures.few in omega (arith, old, new));
}
