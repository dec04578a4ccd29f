use Rattle.std.proofs.Common.{◌≡◌, ◌+◌, vec_len}
use Rattle.tx_kv.specs.Programs.{numbers_below}
use Rattle.tx_kv.proofs.program.jobs.Given as goal

-- the clients so far have the numbers so far, and the seats of the others are left
abbrev pub invariant-loop-number : goal.invariant-loop-number
invariant-loop-number g l = (l.jobs.items ≡ numbers_below l.number)
    × (vec_len l.pairs + l.number ≡ vec_len l.fn.pairs)
