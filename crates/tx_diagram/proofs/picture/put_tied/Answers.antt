use Rattle.std.proofs.Common.{◌++◌, ap, ◌∙◌}
use Rattle.tx_ring.specs.Rings.{tie_text}
use Rattle.tx_diagram.specs.Drawings.{label_text}
use Rattle.tx_diagram.specs.Pictures.{sense_text}
use Rattle.tx_ring.proofs.Pieces.{on_so}
use Rattle.tx_diagram.proofs.picture.put_tied.Goals as goal

pub returns : goal.returns
returns c =
    let h = c.args.history.now in
    let s = c.args.step in
    let old = c.args.out.now.items in
    let rows = c.args.rows in
    let tie = c.args.tie in
    let label = label_text h s s.key in
    let sense = sense_text h s.edge s.from s.to in
    let shown = c.as_slice-3.result.now in
    on_so c.put_tie.result c.put_tie.ensures (λ e.
    e ∙ ap (λ l. old ++ tie_text rows tie l c.as_slice-2.result.now shown)
    (c.as_slice.ensures.value ∙ c.in_ok-label.ensures)
    ∙ ap (λ t. old ++ tie_text rows tie label t shown) (c.as_slice-2.ensures.value ∙ c.in_ok-sense.ensures)
    ∙ ap (λ t. old ++ tie_text rows tie label sense t) (c.as_slice-3.ensures.value ∙ c.in_ok-shown.ensures))
