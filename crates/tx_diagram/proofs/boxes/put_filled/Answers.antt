use Rattle.std.proofs.Common.{◌++◌, length, ap, ◌∙◌}
use Rattle.tx_ring.specs.Rings.{box_text}
use Rattle.tx_acts.specs.About.{about_text}
use Rattle.tx_diagram.specs.Boxes.{id_text, rows_text}
use Rattle.tx_ring.proofs.Pieces.{after, on_so}
use Rattle.tx_diagram.proofs.boxes.put_filled.Goals as goal

pub returns : goal.returns
returns c =
    let h = c.args.history.now in
    let t = c.args.txn in
    let old = c.args.out.now.items in
    let rows = c.args.rows in
    let place = c.args.place in
    let kind = c.args.kind.now in
    let os = c.args.ops.now in
    on_so c.put_rows.result c.put_rows.ensures (λ e.
    after old (box_text rows place kind (id_text h t) (about_text h t (length os))) (rows_text h os)
    (c.in_ok-put_box.ensures
    ∙ ap (λ n. old ++ box_text rows place kind n c.as_slice-2.result.now)
    (c.as_slice.ensures.value ∙ c.in_ok-name.ensures)
    ∙ ap (λ a. old ++ box_text rows place kind (id_text h t) a)
    (c.as_slice-2.ensures.value ∙ c.in_ok-about.ensures)) e)
