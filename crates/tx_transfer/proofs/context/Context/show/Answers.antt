use Rattle.std.proofs.Common.{refl}
use Rattle.tx_transfer.proofs.context.Context.show.Goals as goal

pub returns-clause-way : goal.returns-clause-way
returns-clause-way g c = record { takes = λ a q held. held; answers = λ a b q r is. is.0; between = λ a. refl }

pub returns-clause-replies : goal.returns-clause-replies
returns-clause-replies g c = λ a b q reached is. is.0
