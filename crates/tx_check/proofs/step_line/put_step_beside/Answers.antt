use Rattle.std.proofs.Common.{◌≡◌, ◌++◌, ◌∷◌, [], ap, ◌∙◌}
use Rattle.std.specs.Prelude.{decimal}
use Rattle.serde_json.specs.Data.{string}
use Rattle.serde_json.specs.Written.{compact_text}
use Rattle.tx_check.specs.Steps.{step_word, step_fields}
use Rattle.tx_text.specs.Texts.{members_text}
use Rattle.tx_text.proofs.Texts.{if_ok}
use Rattle.tx_check.proofs.StepLines.{beside_from}
use Rattle.tx_check.proofs.step_line.put_step_beside.Goals as goal

pub returns : goal.returns
returns c =
    let old = c.args.out.now.items in
    let n = c.args.number in
    let w = string (step_word c.args.step.now) in
    let ds = step_fields c.args.step.now in
    let first : c.extend_from_slice.new.self.items ≡ old ++ 91 ∷ [] = c.in_ok-extend_from_slice.ensures.items in
    let digits : c.put_digits.new.out.items ≡ (old ++ 91 ∷ []) ++ decimal n =
    c.in_ok-put_digits.ensures ∙ ap (λ t. t ++ decimal n) first in
    let opened : c.extend_from_slice-2.new.self.items ≡ ((old ++ 91 ∷ []) ++ decimal n) ++ 44 ∷ 91 ∷ [] =
    c.in_ok-extend_from_slice-2.ensures.items ∙ ap (λ t. t ++ 44 ∷ 91 ∷ []) digits in
    let word : c.extend_from_slice-3.new.self.items
    ≡ (((old ++ 91 ∷ []) ++ decimal n) ++ 44 ∷ 91 ∷ []) ++ compact_text w =
    c.in_ok-extend_from_slice-3.ensures.items
    ∙ (ap (λ t. t ++ c.word_of.result.now) opened
    ∙ ap (λ t. (((old ++ 91 ∷ []) ++ decimal n) ++ 44 ∷ 91 ∷ []) ++ t) c.word_of.ensures) in
    let all : c.put_fields.new.out.items
    ≡ ((((old ++ 91 ∷ []) ++ decimal n) ++ 44 ∷ 91 ∷ []) ++ compact_text w) ++ members_text ds =
    c.in_ok-put_fields.ensures ∙ ap (λ t. t ++ members_text ds) word in
    if_ok c.extend_from_slice-4.result _ _ _ c.extend_from_slice-4.ensures.items (λ e. e
    ∙ ap (λ t. t ++ 93 ∷ 93 ∷ 10 ∷ []) all ∙ beside_from old n w ds)
