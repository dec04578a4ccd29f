use Rattle.std.proofs.Common.{◌≡◌, take}
use Rattle.std.specs.List.{flat_map}
use Rattle.tx_answers.specs.Traces.{moment_steps}
use Rattle.tx_answers.proofs.steps.steps_of.Given as goal

abbrev pub invariant-loop-moment : goal.invariant-loop-moment
invariant-loop-moment l = l.steps.items ≡ flat_map (moment_steps l.history) (take l.moment-index l.moments)
