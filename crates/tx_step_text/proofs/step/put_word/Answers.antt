use Rattle.std.proofs.Common.{◌∷◌, ◌++◌, ap, ◌∙◌}
use Rattle.serde_json.specs.Data.{string}
use Rattle.serde_json.specs.Written.{compact_text}
use Rattle.tx_text.proofs.Texts.{on_ok}
use Rattle.tx_step_text.proofs.MemberTexts.{text_is_string}
use Rattle.tx_step_text.proofs.step.put_word.Goals as goal

pub returns : goal.returns
returns c =
    on_ok c.put_text.result c.put_text.ensures (λ e. e
    ∙ ap (λ d. c.args.out.now.items ++ 44 ∷ compact_text d)
    (text_is_string c.as_bytes.result.now c.as_bytes.ensures.utf8 ∙ ap string c.as_bytes.ensures.value))
