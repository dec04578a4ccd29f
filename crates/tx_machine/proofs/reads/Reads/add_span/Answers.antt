use Rattle.tx_machine.proofs.Marks.{adds_span_at}
use Rattle.tx_machine.proofs.reads.Reads.add_span.Goals as goal

pub returns-clause-ok : goal.returns-clause-ok
returns-clause-ok c = adds_span_at _ _ _ _ _ c.in_ok-push_at.ensures.ok
