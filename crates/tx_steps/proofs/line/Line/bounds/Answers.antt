use Rattle.std.proofs.Common.{sym}
use Rattle.serde_json.specs.View.{view}
use Rattle.tx_steps.proofs.ManyMembers.{no_bounds_in}
use Rattle.tx_steps.proofs.line.Line.bounds.Goals as goal

pub returns-in-None-clause-ok : goal.returns-in-None-clause-ok
returns-in-None-clause-ok c = rw c.in-Other.is (sym (no_bounds_in (view c.in-Other.value) c.in-None.ensures.none))
