use Rattle.std.proofs.Common.{◌∙◌}
use Rattle.tx_steps.proofs.FirstMembers.{none_is}
use Rattle.tx_steps.proofs.members.none_left.Goals as goal

pub returns : goal.returns
returns c = c.is_empty.ensures ∙ none_is c.args.members.now
