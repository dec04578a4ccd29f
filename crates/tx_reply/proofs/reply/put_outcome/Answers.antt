use Rattle.std.proofs.Common.{◌++◌, sym, ap, ◌∙◌}
use Rattle.json.specs.Print.{escape_byte}
use Rattle.tx_core.specs.declared.event.Outcome.TheVariants as outcome
use Rattle.tx_reply.specs.Replies.{outcome_words}
use Rattle.tx_text.specs.Texts.{members_text}
use Rattle.tx_text.proofs.Texts.{if_ok, on_ok, committed_is}
use Rattle.tx_reply.proofs.reply.put_outcome.Goals as goal

pub returns-in-Committed : goal.returns-in-Committed
unfolding escape_byte
returns-in-Committed c =
    let old = c.args.out.now.items in
    on_ok c.put_stamped.result c.put_stamped.ensures
    (λ e. e ∙ committed_is old c.get.result
    ∙ ap (λ n. old ++ members_text (outcome_words (outcome.Committed n))) c.get.ensures
    ∙ ap (λ o. old ++ members_text (outcome_words o)) (sym c.in-Committed.is))

pub returns-in-ReadOnly : goal.returns-in-ReadOnly
unfolding escape_byte
returns-in-ReadOnly c =
    let old = c.args.out.now.items in
    if_ok c.extend_from_slice-in-ReadOnly.result _ _ _
    c.extend_from_slice-in-ReadOnly.ensures.items
    (λ e. e ∙ ap (λ o. old ++ members_text (outcome_words o)) (sym c.in-ReadOnly.is))
