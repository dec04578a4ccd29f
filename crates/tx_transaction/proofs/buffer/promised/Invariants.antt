use Rattle.std.proofs.Common.{◌≡◌}
use Rattle.tx_transaction.specs.Buffers.{promised_from}
use Rattle.tx_transaction.proofs.Places.{rest}
use Rattle.tx_transaction.proofs.buffer.promised.Given as goal

abbrev pub invariant-loop-i : goal.invariant-loop-i
invariant-loop-i l = promised_from 0 l.buffer ≡ promised_from l.greatest (rest l.i l.buffer)
