use Rattle.std.proofs.Common.{◌++◌, get_or, ap, ◌∙◌}
use Rattle.tx_diagram.specs.Drawings.{arrow_text}
use Rattle.tx_verdict_text.proofs.Lines.{no_step}
use Rattle.tx_diagram.proofs.Pieces.{piece_more}
use Rattle.tx_diagram.proofs.drawing.put_arrows.Goals as goal

pub loop-step-preserved : goal.loop-step-preserved
loop-step-preserved c =
    let f = arrow_text c.args.history.now in
    let xs = c.args.steps.now in
    let at = c.loop-step.step-index in
    c.in_ok-put_arrow.ensures ∙ ap (λ t. t ++ f (get_or xs at no_step)) c.loop-step.invariant
    ∙ piece_more f c.args.out.now.items xs at no_step c.loop-step-test.true
