use Rattle.std.proofs.Common.{◌≡◌, take}
use Rattle.tx_kv.specs.NumberValues.{sum_of}
use Rattle.tx_kv.proofs.numbers.sum_of.Given as goal

-- it is the sum of the rows so far
abbrev pub invariant-loop-row : goal.invariant-loop-row
invariant-loop-row l = l.sum ≡ sum_of (take l.row-index l.rows)
