use Rattle.std.proofs.Common.{◌≡◌}
use Rattle.tx_verdict.specs.Steps.{step_at}
use Rattle.tx_diagram.specs.Pictures.{rows_at, most_of}
use Rattle.tx_diagram.proofs.picture.rows_of.Given as goal

abbrev pub invariant-loop-i : goal.invariant-loop-i
invariant-loop-i l = l.most ≡ most_of (λ i. rows_at l.history l.keys (step_at l.steps i)) l.i
