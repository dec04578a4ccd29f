-- All of them do.
use Rattle.std.proofs.Common.{◌≢◌, arith, None}
use Rattle.std.proofs.lemmas.Grind.{common_steps}
use Rattle.tx_verdict.specs.declared.verdict.CycleStep.{CycleStep}
use Rattle.tx_verdict.specs.declared.verdict.EdgeKind.TheVariants.{Ww}
use Rattle.tx_verdict.proofs.Small.{by_place}
use Rattle.tx_verdict.proofs.steps.are_of_two.Goals as goal

pub returns : goal.returns
returns c _ =
    by_place (λ (s : CycleStep). s.from ≢ s.to) c.args.steps.now record { from = 0; edge = Ww; key = None; to = 0 }
    (λ i lt. c.loop-i.invariant i (grind (arith, common_steps, c.loop-i-test.false, lt)))
