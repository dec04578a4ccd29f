use Rattle.std.proofs.Common.{subst, sym, ap, ◌∙◌}
use Rattle.tx_answers.specs.Pages.{framed_text}
use Rattle.tx_answers.specs.Answers.{IsSaidTo}
use Rattle.tx_answers.proofs.answer.judged.Goals as goal

pub returns : goal.returns
returns c =
    let options = c.args.options in
    let inner = c.in_ok-answer.answer.text.items in (
      inner,
      subst (λ end. IsSaidTo options.all options c.args.history.now inner end) (sym c.in_ok-made.ensures.end)
          c.in_ok-answer.ensures,
      c.in_ok-made.ensures.text ∙ ap (λ b. framed_text b inner) c.is_page-paged.ensures,
    )
