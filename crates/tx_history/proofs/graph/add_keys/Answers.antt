-- One key more.
use Rattle.std.proofs.Common.{◌≡◌, ◌<◌, length, arith}
use Rattle.std.proofs.lemmas.Grind.{common_steps}
use Rattle.tx_history.specs.Records.{writers_of}
use Rattle.tx_history.specs.Additions.{Each, IsVersionEdge}
use Rattle.tx_history.proofs.Added.{one_more, up_to}
use Rattle.tx_history.proofs.Graphs.{of_key, edges_of_key}
use Rattle.tx_history.proofs.graph.add_keys.Goals as goal

pub loop-key-preserved : goal.loop-key-preserved
loop-key-preserved c =
    let r = c.args.recorded.now in
    let k = c.loop-key.key in
    let e = c.writers_of.ensures in
    let new = c.in_ok-add_versions.ensures.few in
    let lt : k < length r.heads.items = grind (arith, common_steps, c.len-key-end.ensures) in
    let old = c.loop-key.invariant.few lt in
    let more = edges_of_key r k c.writers_of.result.now (length c.args.edges.now.items) (length c.loop-key.edges.items)
    (length c.add_versions.new.edges.items) c.requires.places lt e old new in
    record {
      added = one_more _ _ _ k (λ k. Each (length (writers_of r k)) (IsVersionEdge (writers_of r k)))
          c.loop-key.invariant.added (of_key r k _ _ _ e c.in_ok-add_versions.ensures.added);
      few = more.0;
      all = more.1;
    }

pub returns-clause-added : goal.returns-clause-added
returns-clause-added c =
    let r = c.args.recorded.now in
    let all : c.loop-key.key ≡ length r.heads.items = grind (arith, common_steps, c.len-key-end.ensures) in
    up_to _ _ c.loop-key.key _ (λ k. Each (length (writers_of r k)) (IsVersionEdge (writers_of r k))) all
    c.loop-key.invariant.added

pub returns-clause-few : goal.returns-clause-few
returns-clause-few c =
    let r = c.args.recorded.now in
    let all : c.loop-key.key ≡ length r.heads.items = grind (arith, common_steps, c.len-key-end.ensures) in
    c.loop-key.invariant.all all
