use Rattle.std.proofs.Common.{◌++◌, codes, take, ap, ◌∙◌}
use Rattle.tx_acts.specs.Ops.{cut_at}
use Rattle.tx_text.proofs.Texts.{if_ok}
use Rattle.tx_ring.proofs.Pieces.{after}
use Rattle.tx_acts.proofs.ops.put_cut.Goals as goal

pub returns : goal.returns
returns c =
    let old = c.args.out.now.items in
    let text = c.args.text.now in
    if_ok c.extend_from_slice-2.result _ _ _ c.extend_from_slice-2.ensures.items (λ e.
    after old (take (cut_at text) text) (codes "..")
    (c.in_ok-extend_from_slice.ensures.items ∙ ap (λ t. old ++ t) c.cut.ensures) e)
