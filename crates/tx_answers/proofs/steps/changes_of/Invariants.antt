use Rattle.std.proofs.Common.{◌≡◌}
use Rattle.tx_answers.specs.Traces.{each_of, change_at}
use Rattle.tx_answers.proofs.steps.changes_of.Given as goal

abbrev pub invariant-loop-i : goal.invariant-loop-i
invariant-loop-i l = l.changes ≡ each_of (change_at l.history l.ops) l.i
