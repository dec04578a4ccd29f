use Rattle.std.proofs.Common.{◌∙◌}
use Rattle.json.specs.Print.{escape_byte}
use Rattle.tx_text.proofs.Texts.{if_ok}
use Rattle.tx_check.proofs.Joins.{join_three}
use Rattle.tx_check.proofs.reasons.put_state.Goals as goal

pub returns : goal.returns
unfolding escape_byte
returns c = if_ok c.extend_from_slice.result _ _ _ c.extend_from_slice.ensures.items
    (λ e. e ∙ join_three c.args.out.now.items _ _ _ _ c.in_ok-put_stamp.ensures c.in_ok-put_standing.ensures
    c.in_ok-put_committed.ensures)
