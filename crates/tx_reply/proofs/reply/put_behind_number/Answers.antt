use Rattle.std.proofs.Common.{rules, ◌≡◌, ◌++◌, ◌∷◌, [], ap, ◌∙◌}
use Rattle.tx_reply.specs.Replies.{reply_words}
use Rattle.tx_text.specs.Texts.{members_text}
use Rattle.tx_text.proofs.Texts.{on_ok}
use Rattle.tx_reply.proofs.reply.put_behind_number.Goals as goal

pub returns : goal.returns
returns c =
    let all : c.put_words.new.out.items ≡ c.args.out.now.items ++ members_text (reply_words c.args.reply.now) =
    search rules in
    on_ok c.put_end.result c.put_end.ensures (λ e. e ∙ ap (λ t. t ++ 93 ∷ 10 ∷ []) all)
