use Rattle.std.proofs.Common.{sym}
use Rattle.serde_json.specs.View.{view}
use Rattle.tx_steps.proofs.ManyMembers.{no_step_in}
use Rattle.tx_steps.proofs.line.put_step_of_value.Goals as goal

pub returns-in-None : goal.returns-in-None
returns-in-None c = sym (no_step_in c.args.program (view c.args.value.now) c.in-None.ensures.none)
