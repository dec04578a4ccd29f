use Rattle.std.proofs.Common.{◌++◌, ap, ◌∙◌}
use Rattle.tx_diagram.specs.Pictures.{piece_at}
use Rattle.tx_ring.proofs.Pieces.{each_more_behind}
use Rattle.tx_diagram.proofs.picture.put_pieces.Goals as goal

pub loop-i-preserved : goal.loop-i-preserved
loop-i-preserved c =
    let f = piece_at c.args.history.now c.args.keys.now c.args.rows c.args.steps.now in
    c.in_ok-put_piece_at.ensures ∙ ap (λ t. t ++ f c.loop-i.i) c.loop-i.invariant
    ∙ each_more_behind f c.args.out.now.items c.loop-i.i
