use Rattle.std.proofs.Common.{◌∙◌}
use Rattle.json.specs.Print.{escape_byte}
use Rattle.tx_text.proofs.Texts.{on_ok}
use Rattle.tx_check.proofs.Joins.{join_three}
use Rattle.tx_check.proofs.reasons.put_read.Goals as goal

pub returns : goal.returns
unfolding escape_byte
returns c = on_ok c.put_seen.result c.put_seen.ensures (λ e. e
    ∙ join_three c.args.out.now.items _ _ _ _ c.in_ok-put_key.ensures c.in_ok-put_stamp.ensures
    c.in_ok-put_found.ensures)
