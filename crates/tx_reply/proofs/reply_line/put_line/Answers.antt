use Rattle.std.proofs.Common.{rules, ◌≡◌, ◌∷◌, [], ◌++◌, length, take, ap, append_assoc, ◌∙◌}
use Rattle.std.specs.Prelude.{decimal}
use Rattle.std.proofs.Math.Seq.{take-append_seam}
use Rattle.tx_text.specs.Texts.{members_text}
use Rattle.tx_text.proofs.Texts.{line_is}
use Rattle.tx_reply.specs.Replies.{reply_words}
use Rattle.tx_reply.proofs.reply_line.put_line.Goals as goal

pub returns-clause-text : goal.returns-clause-text
returns-clause-text c =
    let ds = reply_words c.args.reply.now in
    c.in_ok-put_behind_number.ensures
    ∙ ap (λ t. (t ++ members_text ds) ++ 93 ∷ 10 ∷ []) c.in_ok-begin.ensures
    ∙ line_is [] c.args.number ds

pub returns-clause-front : goal.returns-clause-front
returns-clause-front c =
    let ds = reply_words c.args.reply.now in
    let front = 91 ∷ decimal c.args.number in
    let long : c.len-len.result ≡ length c.begin.new.text.items = search rules in
    let at : c.len-len.result ≡ length front = long ∙ ap length c.in_ok-begin.ensures in
    ap (λ l. take c.len-len.result l) (c.in_ok-put_behind_number.ensures
    ∙ ap (λ t. (t ++ members_text ds) ++ 93 ∷ 10 ∷ []) c.in_ok-begin.ensures
    ∙ append_assoc front (members_text ds) (93 ∷ 10 ∷ []))
    ∙ ap (λ i. take i (front ++ (members_text ds ++ 93 ∷ 10 ∷ []))) at
    ∙ take-append_seam front (members_text ds ++ 93 ∷ 10 ∷ [])
