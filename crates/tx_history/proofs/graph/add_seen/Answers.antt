-- One edge, where a version was read.
use Rattle.std.proofs.Common.{arith}
use Rattle.tx_history.proofs.Added.{on_ok, seen_edge}
use Rattle.tx_history.proofs.graph.add_seen.Goals as goal

pub returns-then-version-writers-clause-added : goal.returns-then-version-writers-clause-added
returns-then-version-writers-clause-added c =
    on_ok _ _ _ (λ q. seen_edge _ _ c.args.writers.now c.args.read _ (omega (arith, c.if-version-ge1.true))
    (omega (arith, c.if-version-writers.true)) c.after.ensures q) c.add.ensures.added
