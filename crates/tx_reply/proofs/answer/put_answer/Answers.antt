use Rattle.std.proofs.Common.{◌++◌, sym, ap, ◌∙◌}
use Rattle.json.specs.Print.{escape_byte}
use Rattle.tx_plan.specs.declared.answer.Answer.TheVariants as answer
use Rattle.tx_reply.specs.Replies.{answer_words}
use Rattle.tx_text.specs.Texts.{members_text}
use Rattle.tx_text.proofs.Texts.{if_ok, on_ok, committed_is}
use Rattle.tx_reply.proofs.answer.put_answer.Goals as goal

pub returns-in-Committed : goal.returns-in-Committed
unfolding escape_byte
returns-in-Committed c =
    let old = c.args.out.now.items in
    on_ok c.put_stamped-in-Committed.result c.put_stamped-in-Committed.ensures (λ e. e
    ∙ committed_is old c.get-in-Committed.result
    ∙ ap (λ n. old ++ members_text (answer_words (answer.Committed n))) c.get-in-Committed.ensures
    ∙ ap (λ a. old ++ members_text (answer_words a)) (sym c.in-Committed.is))

pub returns-in-RolledBack : goal.returns-in-RolledBack
unfolding escape_byte
returns-in-RolledBack c =
    let old = c.args.out.now.items in
    if_ok c.extend_from_slice-in-RolledBack.result _ _ _
    c.extend_from_slice-in-RolledBack.ensures.items
    (λ e. e ∙ ap (λ a. old ++ members_text (answer_words a)) (sym c.in-RolledBack.is))
