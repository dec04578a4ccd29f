use Rattle.std.proofs.Common.{◌++◌, ap, ◌∙◌}
use Rattle.tx_verdict_text.specs.Words.{edge_word}
use Rattle.tx_diagram.specs.Boxes.{box_of}
use Rattle.tx_diagram.specs.Pictures.{tied_text}
use Rattle.tx_ring.proofs.Pieces.{after, on_so}
use Rattle.tx_diagram.proofs.picture.put_piece.Goals as goal

pub returns : goal.returns
returns c =
    let h = c.args.history.now in
    let s = c.args.step in
    let old = c.args.out.now.items in
    let rows = c.args.rows in
    let keys = c.args.keys.now in
    on_so c.put_tied.result c.put_tied.ensures (λ e.
    after old (box_of h keys rows c.args.place (edge_word s.edge) s.from) (tied_text h rows c.args.tie s)
    (c.in_ok-put_box_of.ensures
    ∙ ap (λ k. old ++ box_of h keys rows c.args.place k s.from) c.edge_word-kind.ensures) e)
