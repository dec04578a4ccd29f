use Rattle.std.proofs.Common.{◌++◌, ap, ◌∙◌}
use Rattle.tx_ring.specs.Rings.{row_text}
use Rattle.tx_ring.proofs.Pieces.{on_so}
use Rattle.tx_diagram.proofs.boxes.put_op_row.Goals as goal

pub returns : goal.returns
returns c =
    on_so c.put_row.result c.put_row.ensures (λ e.
    e ∙ ap (λ t. c.args.out.now.items ++ row_text c.args.number t)
    (c.as_slice.ensures.value ∙ c.in_ok-line.ensures))
