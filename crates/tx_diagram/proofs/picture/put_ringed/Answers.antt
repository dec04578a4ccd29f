use Rattle.std.proofs.Common.{◌++◌, length, ap, ◌∙◌}
use Rattle.tx_verdict.specs.Steps.{step_at}
use Rattle.tx_ring.specs.declared.ring.Subject.TheVariants.{Cycle}
use Rattle.tx_ring.specs.Markup.{each_of}
use Rattle.tx_ring.specs.Rings.{head_text, end_text}
use Rattle.tx_diagram.specs.Pictures.{piece_at, last_word, most_of, reach_at}
use Rattle.tx_ring.proofs.Pieces.{after, on_so}
use Rattle.tx_diagram.proofs.picture.put_ringed.Goals as goal

pub returns : goal.returns
returns c =
    let h = c.args.history.now in
    let steps = c.args.steps.now in
    let name = c.args.title.now in
    let rows = c.args.rows in
    let old = c.args.out.now.items in
    let head = head_text Cycle name rows (length steps) (most_of (λ i. reach_at h (step_at steps i)) (length steps)) in
    let pieces = each_of (piece_at h c.args.keys.now rows steps) (length steps) in
    let end = end_text rows (length steps) (last_word steps) in
    on_so c.put_last.result c.put_last.ensures (λ e.
    after old head (pieces ++ end)
    (c.in_ok-put_head.ensures ∙ ap (λ r. old ++ head_text Cycle name rows (length steps) r) c.in_ok-reach.ensures)
    (after c.put_head.new.out.items pieces end c.in_ok-put_pieces.ensures e))
