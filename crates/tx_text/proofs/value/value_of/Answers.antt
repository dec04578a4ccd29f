use Rattle.std.proofs.Common.{refl, rules}
use Rattle.tx_text.proofs.Leaves.{json_some, json_none}
use Rattle.tx_text.proofs.value.value_of.Goals as goal

pub returns-in-Ok-clause-ok : goal.returns-in-Ok-clause-ok
returns-in-Ok-clause-ok c = json_some c.args.line.now _ c.in-Ok.ensures.ok

pub returns-else-eq-clause-ok : goal.returns-else-eq-clause-ok
returns-else-eq-clause-ok c = (refl, json_none c.args.line.now (c.in-Err.ensures.err (search rules)))
