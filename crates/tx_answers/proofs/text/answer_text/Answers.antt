use Rattle.std.proofs.Common.{subst}
use Rattle.tx_answers.specs.Texts.{IsTextIn}
use Rattle.tx_answers.proofs.Known.{if_so}
use Rattle.tx_answers.proofs.text.answer_text.Goals as goal

pub returns : goal.returns
returns c =
    if_so c.text_in.result c.text_in.ensures
    (λ text e. subst (λ b. IsTextIn b c.args.options c.args.history.now c.args.verdict.now text.items)
    c.is_page-paged.ensures e)
