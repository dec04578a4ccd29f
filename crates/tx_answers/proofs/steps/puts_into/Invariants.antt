use Rattle.std.proofs.Common.{◌≡◌, false, take}
use Rattle.std.specs.List.{list_any}
use Rattle.tx_answers.specs.Traces.{is_put_into}
use Rattle.tx_answers.proofs.steps.puts_into.Given as goal

abbrev pub invariant-loop-i : goal.invariant-loop-i
invariant-loop-i l = list_any (is_put_into l.key) (take l.i l.ops) ≡ false
