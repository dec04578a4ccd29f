use Rattle.tx_latch.proofs.Apart.{granted_apart, first_granted, free_granted}
use Rattle.tx_latch.proofs.laws.latches_keep_apart.Goals as goal

pub returns : goal.returns
returns c = record { apart = granted_apart; first = first_granted; free = free_granted }
