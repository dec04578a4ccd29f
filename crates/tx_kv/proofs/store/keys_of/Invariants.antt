use Rattle.std.proofs.Common.{◌≡◌, vec_len}
use Rattle.tx_kv.proofs.store.keys_of.Given as goal

-- so many keys so far
abbrev pub invariant-loop-bytes : goal.invariant-loop-bytes
invariant-loop-bytes l = vec_len l.keys ≡ l.bytes-index
