-- One read more.
use Rattle.std.proofs.Common.{◌≡◌, ◌<◌, length, arith}
use Rattle.std.proofs.lemmas.Grind.{common_steps}
use Rattle.tx_history.specs.Records.{writers_of}
use Rattle.tx_history.specs.Additions.{IsReadEdge, read_at}
use Rattle.tx_history.proofs.Added.{one_more, up_to}
use Rattle.tx_history.proofs.Graphs.{of_read}
use Rattle.tx_history.proofs.graph.add_reads.Goals as goal

pub loop-i-preserved : goal.loop-i-preserved
loop-i-preserved c =
    let r = c.args.recorded.now in
    let lt : c.loop-i.i < length r.reads.items = grind (arith, common_steps, c.len-i-end.ensures) in
    record {
      added = one_more _ _ _ c.loop-i.i (λ i. IsReadEdge (writers_of r (read_at r i).key) (read_at r i))
          c.loop-i.invariant.added (of_read r c.loop-i.i c.index-read.result.now _ _ _ lt c.index-read.ensures
          c.writers_of.ensures c.in_ok-add_read.ensures.added);
      few = (let old = c.loop-i.invariant.few in let new = c.in_ok-add_read.ensures.few in omega (arith, old, new));
    }

pub returns-clause-added : goal.returns-clause-added
returns-clause-added c =
    let r = c.args.recorded.now in
    let all : c.loop-i.i ≡ length r.reads.items = grind (arith, common_steps, c.len-i-end.ensures) in
    up_to _ _ c.loop-i.i _ (λ i. IsReadEdge (writers_of r (read_at r i).key) (read_at r i)) all c.loop-i.invariant.added

pub returns-clause-few : goal.returns-clause-few
returns-clause-few c =
    let r = c.args.recorded.now in
    let all : c.loop-i.i ≡ length r.reads.items = grind (arith, common_steps, c.len-i-end.ensures) in
    let few = c.loop-i.invariant.few in
    omega (arith, all, few)
