use Rattle.std.proofs.Common.{rules, ◌≡◌, ◌++◌, ◌∷◌, [], ap, ◌∙◌}
use Rattle.std.specs.Fmt.{decimal}
use Rattle.tx_text.specs.Faults.{fault_words}
use Rattle.tx_text.specs.Texts.{members_text}
use Rattle.tx_text.proofs.Texts.{line_is, if_ok}
use Rattle.tx_text.proofs.fault.put_fault.Goals as goal

pub returns : goal.returns
returns c =
    let old = c.args.out.now.items in
    let ds = fault_words c.args.cause in
    let n = c.args.number in
    let all : c.put_cause.new.out.items ≡ ((old ++ 91 ∷ []) ++ decimal n) ++ members_text ds = search rules in
    if_ok c.extend_from_slice-2.result _ _ _ c.extend_from_slice-2.ensures.items (λ e. e
    ∙ ap (λ t. t ++ 93 ∷ 10 ∷ []) all ∙ line_is old n ds)
