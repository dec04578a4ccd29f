-- One edge, where there is a next version.
use Rattle.std.proofs.Common.{arith}
use Rattle.tx_history.proofs.Added.{on_ok, version_edge}
use Rattle.tx_history.proofs.graph.add_version.Goals as goal

pub returns-then-i-writers-clause-added : goal.returns-then-i-writers-clause-added
returns-then-i-writers-clause-added c =
    on_ok _ _ _ (λ q. version_edge _ _ c.args.writers.now c.args.i _ (omega (arith, c.if-i-writers.true))
    c.after.ensures q)
    c.add.ensures.added
