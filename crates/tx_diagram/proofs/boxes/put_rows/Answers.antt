use Rattle.std.proofs.Common.{◌++◌, ap, ◌∙◌}
use Rattle.tx_diagram.specs.Boxes.{op_row}
use Rattle.tx_ring.proofs.Pieces.{each_more_behind}
use Rattle.tx_diagram.proofs.boxes.put_rows.Goals as goal

pub loop-i-preserved : goal.loop-i-preserved
loop-i-preserved c =
    let f = op_row c.args.history.now c.args.ops.now in
    c.in_ok-put_op_row_at.ensures ∙ ap (λ t. t ++ f c.loop-i.i) c.loop-i.invariant
    ∙ each_more_behind f c.args.out.now.items c.loop-i.i
