-- How much operations weigh.
use Rattle.std.proofs.Common.{◌≡◌, ℕ, ◌+◌, ◌<◌, ◌≤◌, List, [], ◌∷◌, ◌++◌, length, take, drop, get_or, ap, ◌∙◌, arith}
use Rattle.std.proofs.lemmas.List.{take_more, take-append-drop}
use Rattle.tx_import.specs.declared.line_content.SaidOp.{SaidOp}
use Rattle.tx_import.specs.Drafts.{width, weight}

pub weight-append : (xs ys : List SaidOp) → weight (xs ++ ys) ≡ weight xs + weight ys
weight-append [] ys = omega arith
weight-append (x ∷ xs) ys = omega (arith, weight-append xs ys)

-- one more
pub weight_more : (xs : List SaidOp) (i : ℕ) (x : SaidOp) → i < length xs → x ≡ get_or xs i x
    → weight (take (i + 1) xs) ≡ weight (take i xs) + (1 + width x.act)
weight_more xs i x within is =
    let next = ap weight (take_more xs i x within) ∙ weight-append (take i xs) (get_or xs i x ∷ []) in
    let one = ap (λ o. width o.act) is in omega (arith, next, one)

-- a part weighs no more than all
pub weight_part : (xs : List SaidOp) (i : ℕ) → weight (take i xs) ≤ weight xs
weight_part xs i =
    let all = ap weight (take-append-drop i xs) in
    let parts = weight-append (take i xs) (drop i xs) in omega (arith, all, parts)
