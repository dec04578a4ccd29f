use Rattle.std.proofs.Common.{rules, ◌≡◌, ◌++◌, ap, ◌∙◌}
use Rattle.serde_json.specs.Written.{compact_text}
use Rattle.tx_text.specs.Texts.{text_of}
use Rattle.tx_text.proofs.Texts.{on_ok}
use Rattle.tx_step_text.proofs.MemberTexts.{text_is_string}
use Rattle.tx_generate.specs.Words.{word_text}
use Rattle.tx_generate.proofs.word.WordStepText.put.Goals as goal

pub returns : goal.returns
returns c =
    let old = c.args.out.now.items in
    let word = c.args.self.now in
    let written : c.as_slice.result.now ≡ word_text word = search rules in
    on_ok c.put_string.result c.put_string.ensures (λ e. e
    ∙ ap (λ t. old ++ compact_text (text_of t)) written
    ∙ ap (λ d. old ++ compact_text d) (text_is_string (word_text word) c.put_bytes.ensures.text))
