use Rattle.std.proofs.Common.{◌≡◌, ◌+◌, ◌*◌, vec_len}
use Rattle.tx_kv.proofs.store.pairs.Given as goal

-- so many pairs were made, and two seats a pair are gone
abbrev pub invariant-loop-pair : goal.invariant-loop-pair
invariant-loop-pair g l = (vec_len l.pairs ≡ l._pair) × (vec_len l.seats + l._pair * 2 ≡ vec_len l.fn.seats)
