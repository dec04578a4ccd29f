use Rattle.std.proofs.Common.{◌≡◌, take}
use Rattle.tx_transaction.specs.Buffers.{changes_of}
use Rattle.tx_transaction.proofs.buffer.changes_in.Given as goal

abbrev pub invariant-loop-i : goal.invariant-loop-i
invariant-loop-i l = l.changes ≡ changes_of (take l.i l.buffer)
