use Rattle.std.proofs.Common.{true, sym, ap, ◌∙◌}
use Rattle.tx_answers.specs.Pages.{framed_text}
use Rattle.tx_answers.proofs.answer.on_page.Goals as goal

pub returns-clause-text : goal.returns-clause-text
returns-clause-text c =
    c.in_ok-framed.ensures ∙ ap (λ t. framed_text true t) c.as_slice.ensures.value
    ∙ ap (λ b. framed_text b c.args.answer.text.items) (sym c.if-not-paged.false)
