use Rattle.std.proofs.Common.{◌≡◌, ◌++◌}
use Rattle.tx_answers.specs.Traces.{each_of, read_at}
use Rattle.tx_answers.proofs.steps.put_reads.Given as goal

abbrev pub invariant-loop-i : goal.invariant-loop-i
invariant-loop-i l = l.steps.items ≡ l.fn.steps.items ++ each_of (read_at l.history l.at l.ops) l.i
