use Rattle.tx_needed.proofs.Sanity.{nothing_by_itself, nothing_by_leaves}
use Rattle.tx_needed.proofs.premise.premise_is_enough.Goals as goal

pub returns : goal.returns
returns c = record { premise = nothing_by_itself; leaves = nothing_by_leaves }
