use Rattle.std.proofs.Common.{◌++◌, sym, ap, ◌∙◌}
use Rattle.json.specs.Print.{escape_byte}
use Rattle.tx_client.specs.declared.resolved.Status.TheVariants as status
use Rattle.tx_reply.specs.Replies.{status_words}
use Rattle.tx_text.specs.Texts.{members_text}
use Rattle.tx_text.proofs.Texts.{on_ok, committed_is}
use Rattle.tx_reply.proofs.status.put_status.Goals as goal

pub returns-in-Committed : goal.returns-in-Committed
unfolding escape_byte
returns-in-Committed c =
    let old = c.args.out.now.items in
    on_ok c.put_stamped.result c.put_stamped.ensures
    (λ e. e ∙ committed_is old c.get.result
    ∙ ap (λ n. old ++ members_text (status_words (status.Committed n))) c.get.ensures
    ∙ ap (λ s. old ++ members_text (status_words s)) (sym c.in-Committed.is))
