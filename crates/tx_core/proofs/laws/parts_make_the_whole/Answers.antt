use Rattle.tx_core.proofs.seats.Counts.{parts_count}
use Rattle.tx_core.proofs.laws.parts_make_the_whole.Goals as goal

pub returns : goal.returns
returns c = parts_count
