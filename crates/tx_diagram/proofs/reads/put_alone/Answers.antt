use Rattle.std.proofs.Common.{◌++◌, ap, ◌∙◌}
use Rattle.tx_ring.specs.declared.ring.Tie.TheVariants.{Nothing}
use Rattle.tx_diagram.specs.Reads.{colour_of, box_at, tied_text}
use Rattle.tx_ring.proofs.Pieces.{after, on_so}
use Rattle.tx_diagram.proofs.reads.put_alone.Goals as goal

pub returns : goal.returns
returns c =
    let h = c.args.history.now in
    let f = c.args.fact in
    let rows = c.args.rows in
    let old = c.args.out.now.items in
    on_so c.put_tied.result c.put_tied.ensures (λ e.
    after old (box_at h f rows 0 (colour_of f.rule) f.txn) (tied_text h f rows Nothing)
    (c.in_ok-put_box_at.ensures ∙ ap (λ k. old ++ box_at h f rows 0 k f.txn) c.colour_of-kind.ensures) e)
