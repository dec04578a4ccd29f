use Rattle.std.proofs.Common.{◌++◌, [], take, ap, ◌∙◌}
use Rattle.std.specs.List.{flat_map}
use Rattle.tx_check.specs.Steps.{step_text}
use Rattle.tx_html.proofs.Pieces.{piece_more}
use Rattle.tx_page.proofs.lines.lines_of.Goals as goal

pub loop-step-preserved : goal.loop-step-preserved
loop-step-preserved c =
    let xs = c.args.steps.now in
    let at = c.loop-step.step-index in
    c.in_ok-put_step.ensures ∙ ap (λ t. t ++ step_text c.step-item.result) c.loop-step.invariant
    ∙ ap (λ s. flat_map step_text (take at xs) ++ step_text s) c.step-item.is
    ∙ piece_more step_text [] xs at c.step-item.result c.loop-step-test.true
