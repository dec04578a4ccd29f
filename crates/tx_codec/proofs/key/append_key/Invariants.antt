use Rattle.std.proofs.Common.{◌≡◌, ◌++◌, length}
use Rattle.tx_codec.specs.Keys.{encoded_key}
use Rattle.tx_codec.proofs.key.append_key.Given as goal

abbrev pub invariant-loop-rest : goal.invariant-loop-rest
invariant-loop-rest l = l.out.items ++ encoded_key l.rest ≡ l.fn.out.items ++ encoded_key l.key

abbrev pub decreases-loop-rest : goal.decreases-loop-rest
decreases-loop-rest l = length l.rest
