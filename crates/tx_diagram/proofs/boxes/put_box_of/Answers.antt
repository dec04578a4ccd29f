use Rattle.std.proofs.Common.{◌++◌, ap, ◌∙◌}
use Rattle.tx_diagram.specs.Boxes.{filled_text}
use Rattle.tx_ring.proofs.Pieces.{on_so}
use Rattle.tx_diagram.proofs.boxes.put_box_of.Goals as goal

pub returns : goal.returns
returns c =
    on_so c.put_filled.result c.put_filled.ensures (λ e.
    e ∙ ap (λ os. c.args.out.now.items
    ++ filled_text c.args.history.now c.args.rows c.args.place c.args.kind.now c.args.txn os)
    (c.as_slice-ops.ensures.value ∙ c.in_ok-shown.ensures))
