use Rattle.tx_update.specs.Ranges.{greatest}
use Rattle.tx_update.proofs.rows.greatest.Goals as goal

pub returns-clause-ok : goal.returns-clause-ok
unfolding greatest
returns-clause-ok c = c.new.ensures.ok
