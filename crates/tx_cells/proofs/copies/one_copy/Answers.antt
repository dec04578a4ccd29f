use Rattle.tx_cells.proofs.OneCopy.{one_copy}
use Rattle.tx_cells.proofs.copies.one_copy.Goals as goal

pub returns : goal.returns
returns c = one_copy
