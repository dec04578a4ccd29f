use Rattle.std.proofs.Common.{◌≤◌, length, take}
use Rattle.tx_codec.proofs.KeyReads.{IsRead}
use Rattle.tx_codec.proofs.key.read_key.Given as goal

abbrev pub invariant-loop-rest : goal.invariant-loop-rest
invariant-loop-rest l = (l.len ≤ 512) × IsRead l.bytes l.rest (take l.len l.key)

abbrev pub decreases-loop-rest : goal.decreases-loop-rest
decreases-loop-rest l = length l.rest
