use Rattle.std.proofs.Common.{◌++◌, codes, ap, ◌∙◌}
use Rattle.tx_acts.specs.Ops.{op_line}
use Rattle.tx_text.proofs.Texts.{if_ok}
use Rattle.tx_ring.proofs.Pieces.{after}
use Rattle.tx_acts.proofs.evidence.put_behind.Goals as goal

pub returns : goal.returns
returns c =
    if_ok c.extend_from_slice-2.result _ _ _ c.extend_from_slice-2.ensures.items (λ e.
    after c.args.out.now.items (codes ", ") (op_line c.args.history.now c.args.op)
    c.in_ok-extend_from_slice.ensures.items
    (e ∙ ap (λ t. c.extend_from_slice.new.self.items ++ t) (c.as_slice.ensures.value ∙ c.in_ok-line.ensures)))
