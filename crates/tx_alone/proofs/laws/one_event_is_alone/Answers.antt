use Rattle.tx_alone.proofs.OwnEvents.{alone_by_answer, alone_by_own}
use Rattle.tx_alone.proofs.laws.one_event_is_alone.Goals as goal

pub returns : goal.returns
returns c = record { own = alone_by_own; answered = alone_by_answer }
