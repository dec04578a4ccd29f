use Rattle.std.proofs.Common.{◌++◌, codes, ap, ◌∙◌}
use Rattle.tx_ring.specs.Rings.{box_end_text}
use Rattle.tx_diagram.specs.Reads.{colour_of, tie_of, box_at, tied_text}
use Rattle.tx_ring.proofs.Pieces.{after, on_so}
use Rattle.tx_diagram.proofs.reads.put_pair.Goals as goal

pub returns : goal.returns
returns c =
    let h = c.args.history.now in
    let f = c.args.fact in
    let rows = c.args.rows in
    let old = c.args.out.now.items in
    let first = box_at h f rows 0 (colour_of f.rule) c.args.other in
    let tied = tied_text h f rows (tie_of f.rule) in
    let second = box_at h f rows 1 (codes "last") f.txn in
    on_so c.put_end_of_box.result c.put_end_of_box.ensures (λ e.
    after old first (tied ++ (second ++ box_end_text))
    (c.in_ok-put_box_at.ensures ∙ ap (λ k. old ++ box_at h f rows 0 k c.args.other) c.colour_of-kind.ensures)
    (after c.put_box_at.new.out.items tied (second ++ box_end_text)
    (c.in_ok-put_tied.ensures ∙ ap (λ t. c.put_box_at.new.out.items ++ tied_text h f rows t) c.tie_of-tie.ensures)
    (after c.put_tied.new.out.items second box_end_text c.in_ok-put_box_at-2.ensures e)))
