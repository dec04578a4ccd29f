use Rattle.std.proofs.Common.{◌≡◌, ◌+◌, ◌-◌, ℕ, ◌++◌, length, take, replicate, ap, ◌∙◌, arith}
use Rattle.std.proofs.lemmas.List.{take-replicate}
use Rattle.std.proofs.Math.Seq.{take-append-add}
use Rattle.tx_spelling.proofs.spelling.group_of.Goals as goal

pub returns : goal.returns
returns c =
    let key = c.args.key.now in
    let left : ℕ = 8 - length key in
    let whole : 8 ≡ length key + left = omega (arith, c.requires) in
    c.first_eight.ensures
    ∙ ap (λ n. take n (key ++ replicate 8 0)) whole
    ∙ take-append-add key (replicate 8 0) left
    ∙ ap (λ t. key ++ t) (take-replicate {X = ℕ} left 8 0 (omega arith))
