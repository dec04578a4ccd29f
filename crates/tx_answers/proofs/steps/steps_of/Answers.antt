use Rattle.std.proofs.Common.{◌++◌, [], take, ap, ◌∙◌}
use Rattle.std.specs.List.{flat_map}
use Rattle.tx_answers.specs.Traces.{moment_steps}
use Rattle.tx_answers.proofs.Pieces.{piece_more}
use Rattle.tx_answers.proofs.steps.steps_of.Goals as goal

pub loop-moment-preserved : goal.loop-moment-preserved
loop-moment-preserved c =
    let f = moment_steps c.args.history.now in
    let xs = c.args.moments.now in
    let at = c.loop-moment.moment-index in
    c.in_ok-put_moment.ensures ∙ ap (λ t. t ++ f c.moment-item.result) c.loop-moment.invariant
    ∙ ap (λ m. flat_map f (take at xs) ++ f m) c.moment-item.is
    ∙ piece_more f [] xs at c.moment-item.result c.loop-moment-test.true
