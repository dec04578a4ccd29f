-- One edge, where there is a version after.
use Rattle.std.proofs.Common.{arith}
use Rattle.tx_history.proofs.Added.{on_ok, next_edge}
use Rattle.tx_history.proofs.graph.add_next.Goals as goal

pub returns-then-version-writers-clause-added : goal.returns-then-version-writers-clause-added
returns-then-version-writers-clause-added c =
    on_ok _ _ _ (λ q. next_edge _ _ c.args.writers.now c.args.read _ (omega (arith, c.if-version-writers.true))
    c.before-then-version-writers.ensures q) c.add.ensures.added
