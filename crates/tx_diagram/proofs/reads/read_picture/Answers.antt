use Rattle.std.proofs.Common.{◌++◌, ap, ◌∙◌}
use Rattle.tx_ring.specs.Rings.{reach_of}
use Rattle.tx_diagram.specs.Reads.{read_text, most_rows, framed_text}
use Rattle.tx_diagram.proofs.reads.read_picture.Goals as goal

pub returns : goal.returns
returns c =
    let h = c.args.history.now in
    let f = c.args.fact in
    let label = read_text h f in
    let reach = c.reach_of-reach.ensures
    ∙ ap (λ l. reach_of l c.as_bytes.result.now) (c.as_slice.ensures.value ∙ c.in_ok-label.ensures)
    ∙ ap (λ w. reach_of label w) (c.as_bytes.ensures.value ∙ c.why_of.ensures) in
    c.in_ok-put_framed.ensures
    ∙ ap (λ t. t ++ framed_text h f c.in_ok-rows.rows c.reach_of-reach.result) c.new-out.ensures.items
    ∙ ap (λ n. framed_text h f n c.reach_of-reach.result) c.in_ok-rows.ensures
    ∙ ap (λ r. framed_text h f (most_rows h f f.by) r) reach
