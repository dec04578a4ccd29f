use Rattle.std.proofs.Common.{◌++◌, codes, ap, ◌∙◌}
use Rattle.tx_diagram.specs.Pictures.{picture_of}
use Rattle.tx_ring.proofs.Pieces.{on_so}
use Rattle.tx_diagram.proofs.refutation.put_lemma.Goals as goal

pub returns : goal.returns
returns c =
    on_so c.put_picture.result c.put_picture.ensures (λ e.
    e ∙ ap (λ steps. c.args.out.now.items ++ picture_of c.args.history.now (codes "clause") steps)
    c.as_slice.ensures.value)
