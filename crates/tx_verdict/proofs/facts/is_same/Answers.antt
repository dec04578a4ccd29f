-- The values are the same.
use Rattle.std.proofs.Common.{sym, ◌∙◌}
use Rattle.tx_verdict.proofs.facts.is_same.Goals as goal

pub returns : goal.returns
returns c is = sym c.list_of.ensures ∙ c.is_end.ensures.0 is ∙ c.list_of-2.ensures
