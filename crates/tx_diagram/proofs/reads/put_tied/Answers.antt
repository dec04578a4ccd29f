use Rattle.std.proofs.Common.{◌++◌, ap, ◌∙◌}
use Rattle.tx_ring.specs.Rings.{tie_text}
use Rattle.tx_diagram.specs.Reads.{read_text, why_text}
use Rattle.tx_ring.proofs.Pieces.{on_so}
use Rattle.tx_diagram.proofs.reads.put_tied.Goals as goal

pub returns : goal.returns
returns c =
    let h = c.args.history.now in
    let f = c.args.fact in
    let old = c.args.out.now.items in
    let rows = c.args.rows in
    let tie = c.args.tie in
    let label = read_text h f in
    let why = why_text f.rule in
    on_so c.put_tie.result c.put_tie.ensures (λ e.
    e ∙ ap (λ l. old ++ tie_text rows tie l c.as_bytes-why.result.now c.as_slice-2.result.now)
    (c.as_slice.ensures.value ∙ c.in_ok-label.ensures)
    ∙ ap (λ w. old ++ tie_text rows tie label w c.as_slice-2.result.now)
    (c.as_bytes-why.ensures.value ∙ c.why_of.ensures)
    ∙ ap (λ t. old ++ tie_text rows tie label why t) (c.as_slice-2.ensures.value ∙ c.in_ok-shown.ensures))
