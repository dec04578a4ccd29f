use Rattle.std.proofs.Common.{ap, ◌∙◌}
use Rattle.tx_verdict_text.specs.Words.{verdict_text}
use Rattle.tx_answers.specs.Pages.{section_text}
use Rattle.tx_answers.proofs.page.section.Goals as goal

pub returns : goal.returns
returns c =
    let why = c.as_slice-2.result.now in (
      why,
      c.in_ok-made.ensures
          ∙ ap (λ l. section_text l why c.as_slice-3.result.now) (c.as_slice.ensures.value ∙ c.in_ok-line.ensures)
          ∙ ap (λ p. section_text (verdict_text c.args.history.now c.args.verdict.now) why p)
          (c.as_slice-3.ensures.value ∙ c.in_ok-pictures.ensures),
    )
