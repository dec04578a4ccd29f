use Rattle.std.proofs.Common.{rules, ◌≡◌, [], ◌∷◌, ◌++◌, ap, ◌∙◌}
use Rattle.serde_json.specs.Data.{string}
use Rattle.serde_json.specs.View.{items_of}
use Rattle.serde_json.specs.Written.{compact_text}
use Rattle.tx_text.specs.Texts.{text_of}
use Rattle.tx_text.proofs.Lists.{list_is}
use Rattle.tx_steps.specs.Steps.{named}
use Rattle.tx_step_text.specs.StepTexts.{later_text, step_word, step_members}
use Rattle.tx_step_text.proofs.MemberTexts.{text_is_string}
use Rattle.tx_step_text.proofs.step.put_step.Goals as goal

pub returns : goal.returns
returns g c =
    let old = c.args.out.now.items in
    let s = named g.S.StepText.bytes c.args.step.now in
    let written = c.as_bytes.result.now in
    let opened : c.push.new.self.items ≡ old ++ 91 ∷ [] = search rules in
    let begun : c.put_string.new.out.items ≡ c.push.new.self.items ++ compact_text (text_of written) = search rules in
    let told : c.put_members.new.out.items ≡ c.put_string.new.out.items ++ later_text (step_members s) = search rules in
    let closed : c.push-2.new.self.items ≡ c.put_members.new.out.items ++ 93 ∷ [] = search rules in
    let word : text_of written ≡ string (step_word s) =
    text_is_string written c.as_bytes.ensures.utf8 ∙ ap string (c.as_bytes.ensures.value ∙ c.step_word.ensures) in
    closed
    ∙ ap (λ t. t ++ 93 ∷ []) (told
    ∙ ap (λ t. t ++ later_text (step_members s)) (begun
    ∙ ap (λ t. t ++ compact_text (text_of written)) opened
    ∙ ap (λ d. (old ++ 91 ∷ []) ++ compact_text d) word))
    ∙ list_is old (string (step_word s)) (items_of (step_members s))
