use Rattle.std.proofs.Common.{rules, ◌≡◌, ◌++◌, ◌∷◌, [], ap, ◌∙◌}
use Rattle.std.specs.Fmt.{decimal}
use Rattle.tx_reply.specs.Replies.{reply_words}
use Rattle.tx_text.specs.Texts.{members_text}
use Rattle.tx_text.proofs.Texts.{line_is, on_ok}
use Rattle.tx_reply.proofs.reply.put_reply.Goals as goal

pub returns : goal.returns
returns c =
    let old = c.args.out.now.items in
    let ds = reply_words c.args.reply.now in
    let n = c.args.number in
    let begun : c.put_digits.new.out.items ≡ (old ++ 91 ∷ []) ++ decimal n = search rules in
    on_ok c.put_behind_number.result c.put_behind_number.ensures
    (λ e. e ∙ ap (λ t. (t ++ members_text ds) ++ 93 ∷ 10 ∷ []) begun ∙ line_is old n ds)
