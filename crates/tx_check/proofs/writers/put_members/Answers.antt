use Rattle.std.proofs.Common.{◌≡◌, ◌++◌, ◌∙◌, codes, ap}
use Rattle.json.specs.Print.{escape_byte}
use Rattle.serde_json.specs.Data.{string}
use Rattle.serde_json.specs.Written.{compact_text}
use Rattle.tx_check.specs.Reasons.{standing_word, committed_data}
use Rattle.tx_text.proofs.Texts.{if_ok}
use Rattle.tx_check.proofs.Joins.{join_five}
use Rattle.tx_check.proofs.writers.put_members.Goals as goal

pub returns : goal.returns
unfolding escape_byte
returns c =
    let is = c.in_ok-put_standing.ensures
    ∙ ap (λ s. c.put_stamp.new.out.items ++ (codes ",\"is\":" ++ compact_text (string (standing_word s))))
    c.standing-is.ensures in
    let committed = c.in_ok-put_committed.ensures
    ∙ ap (λ s. c.put_standing.new.out.items ++ (codes ",\"committed\":" ++ compact_text (committed_data s)))
    c.standing-is.ensures in
    if_ok c.extend_from_slice.result _ _ _ c.extend_from_slice.ensures.items
    (λ e. e ∙ join_five c.args.out.now.items _ _ _ _ _ _ c.in_ok-put_place.ensures c.in_ok-put_stamp.ensures
    is committed c.in_ok-put_line_at.ensures)
