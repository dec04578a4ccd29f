use Rattle.std.proofs.Common.{sym}
use Rattle.serde_json.specs.View.{view}
use Rattle.tx_check.proofs.LineSteps.{no_step_alone}
use Rattle.tx_check.proofs.checker.alone_step.Goals as goal

pub returns-in_default : goal.returns-in_default
returns-in_default c = sym (no_step_alone (view c.args.value.now) c.in_default.ensures.none)
