use Rattle.std.proofs.Common.{◌++◌, sym, ap, ◌∙◌}
use Rattle.json.specs.Print.{escape_byte}
use Rattle.tx_types.specs.declared.mutation.Fate.TheVariants as fate
use Rattle.tx_check.specs.Steps.{fate_words}
use Rattle.tx_text.specs.Texts.{members_text}
use Rattle.tx_text.proofs.Texts.{on_ok, committed_is}
use Rattle.tx_check.proofs.step_line.put_fate.Goals as goal

pub returns-in-Committed : goal.returns-in-Committed
unfolding escape_byte
returns-in-Committed c =
    let old = c.args.out.now.items in
    on_ok c.put_stamped.result c.put_stamped.ensures
    (λ e. e ∙ committed_is old c.get.result
    ∙ ap (λ n. old ++ members_text (fate_words (fate.Committed n))) c.get.ensures
    ∙ ap (λ o. old ++ members_text (fate_words o)) (sym c.in-Committed.is))
