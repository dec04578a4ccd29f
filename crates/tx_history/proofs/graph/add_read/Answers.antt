-- The edges of both.
use Rattle.tx_history.proofs.Added.{on_ok, both_edges}
use Rattle.tx_history.proofs.graph.add_read.Goals as goal

pub returns-clause-added : goal.returns-clause-added
returns-clause-added c =
    on_ok _ _ _ (λ q. both_edges _ _ _ c.args.writers.now c.args.read c.in_ok-add_seen.ensures.added q)
    c.add_next.ensures.added
