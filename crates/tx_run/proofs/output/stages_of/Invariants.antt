use Rattle.std.proofs.Common.{take}
use Rattle.tx_run.specs.Jobs.{IsSubsequence, stages_in}
use Rattle.tx_run.proofs.output.stages_of.Given as goal

abbrev pub invariant-loop-output : goal.invariant-loop-output
invariant-loop-output g l = IsSubsequence l.stages.items (stages_in (take l.output-index l.outputs))
