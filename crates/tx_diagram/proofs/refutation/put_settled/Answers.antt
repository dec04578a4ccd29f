use Rattle.std.proofs.Common.{◌++◌, codes, ap, ◌∙◌}
use Rattle.tx_diagram.specs.Drawings.{order_text}
use Rattle.tx_diagram.specs.Pictures.{picture_of}
use Rattle.tx_ring.proofs.Pieces.{on_so}
use Rattle.tx_diagram.proofs.refutation.put_settled.Goals as goal

pub returns : goal.returns
returns c =
    let h = c.args.history.now in
    let old = c.args.out.now.items in
    on_so c.put_picture.result c.put_picture.ensures (λ e.
    e ∙ ap (λ n. old ++ picture_of h n c.as_slice-2.result.now) (c.as_slice.ensures.value ∙ c.in_ok-title.ensures)
    ∙ ap (λ steps. old ++ picture_of h (codes "not " ++ order_text h c.args.fact.now.order) steps)
    c.as_slice-2.ensures.value)
