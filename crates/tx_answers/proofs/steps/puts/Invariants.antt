use Rattle.std.proofs.Common.{◌≡◌, false, take}
use Rattle.std.specs.List.{list_any}
use Rattle.tx_answers.specs.Traces.{is_put}
use Rattle.tx_answers.proofs.steps.puts.Given as goal

abbrev pub invariant-loop-i : goal.invariant-loop-i
invariant-loop-i l = list_any is_put (take l.i l.ops) ≡ false
