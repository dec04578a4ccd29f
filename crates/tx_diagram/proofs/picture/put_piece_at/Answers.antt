use Rattle.std.proofs.Common.{◌++◌, ap, ◌∙◌}
use Rattle.tx_verdict.specs.Steps.{step_at}
use Rattle.tx_diagram.specs.Pictures.{piece_text}
use Rattle.tx_ring.proofs.Pieces.{on_so}
use Rattle.tx_diagram.proofs.picture.put_piece_at.Goals as goal

pub returns : goal.returns
returns c =
    let a = c.args in
    on_so c.put_piece.result c.put_piece.ensures (λ e.
    e ∙ ap (λ tie. a.out.now.items
    ++ piece_text a.history.now a.keys.now a.rows a.place tie (step_at a.steps.now a.place))
    c.tie_at-tie.ensures)
