-- The edge from a start to a commit.
use Rattle.std.proofs.Common.{subst}
use Rattle.tx_history.specs.Records.{history_of}
use Rattle.tx_history.specs.Graph.{IsEdge}
use Rattle.tx_history.proofs.Reasons.{as_before, if_none_map}
use Rattle.tx_history.proofs.dependency.reason.Goals as goal

pub returns-clause-none : goal.returns-clause-none
returns-clause-none c =
    if_none_map _ _ c.reason_before.result
    (λ none is. none (subst (IsEdge (history_of c.args.recorded.now))
    (as_before c.args.from c.args.to c.if-from-eq1.false c.if-from-to.false) is))
    c.reason_before.ensures.none
