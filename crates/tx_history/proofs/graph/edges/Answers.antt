-- What was added to no edges.
use Rattle.tx_history.proofs.Graphs.{graph_of}
use Rattle.tx_history.proofs.graph.edges.Goals as goal

pub returns-clause-graph : goal.returns-clause-graph
returns-clause-graph c =
    graph_of c.args.recorded.now _ _ _ _ _ c.new-edges.ensures.items c.in_ok-add_own.ensures.added
    c.in_ok-add_keys.ensures.added c.in_ok-add_reads.ensures.added c.in_ok-add_pairs.ensures.added
