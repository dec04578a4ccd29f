use Rattle.std.proofs.Common.{List, subst, take_all}
use Rattle.std.specs.Option.{option_to_list}
use Rattle.tx_run.specs.Jobs.{IsSubsequence, Output, stages_in}
use Rattle.tx_run.proofs.Subsequences.{looked_at}
use Rattle.tx_run.proofs.output.stages_of.Goals as goal

pub loop-output-preserved : goal.loop-output-preserved
loop-output-preserved g c =
    looked_at (λ (o : Output). option_to_list o.stage) c.args.outputs.now c.loop-output.output-index
    c.output-item.result c.loop-output.stages.items c.add_stage.new.stages.items c.loop-output-test.true
    c.output-item.is c.loop-output.invariant c.add_stage.ensures

pub returns : goal.returns
returns g c =
    subst (λ (l : List Output). IsSubsequence c.loop-output.stages.items (stages_in l))
    (take_all c.loop-output.output-index c.args.outputs.now c.loop-output-test.false) c.loop-output.invariant
