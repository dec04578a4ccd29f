use Rattle.tx_transfer.proofs.Digits.{ReadsUpTo}
use Rattle.tx_transfer.proofs.balance.number_of.Given as goal

abbrev pub invariant-loop-byte : goal.invariant-loop-byte
invariant-loop-byte l = ReadsUpTo l.text l.byte-index l.number
