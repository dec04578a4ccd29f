use Rattle.std.proofs.Common.{rules, arith, ◌≡◌, ◌<◌, ◌+◌, ◌-◌, length, get_or, slice_set, ap, subst, ◌∙◌}
use Rattle.std.proofs.lemmas.Grind.{get_or_default_zero}
use Rattle.tx_reply.proofs.Counted.{counted}
use Rattle.tx_reply.proofs.reply_line.count_up.Goals as goal

pub returns-clause-up : goal.returns-clause-up
returns-clause-up c =
    let xs = c.args.text.now.items in
    let i = c.len-len.result - 1 in
    let at : c.len-len.result ≡ length xs = search rules in
    let within : i < length xs = omega (arith, at, c.if-len-eq0.false) in
    let value : c.index_mut.result.now ≡ get_or xs i 0 =
    c.index_mut.ensures.value ∙ get_or_default_zero xs i c.index_mut.result.now within in
    let seen : c.index.result.now ≡ get_or xs i 0 =
    c.index.ensures ∙ get_or_default_zero xs i c.index.result.now within in
    let low : get_or xs i 0 < 57 = omega (arith, seen, c.if-index-ge57.false) in
    let same : i ≡ length xs - 1 = ap (λ k. k - 1) at in
    λ yes front n big is. ap (λ x. slice_set xs i (x + 1)) value
    ∙ ap (λ k. slice_set xs k (get_or xs k 0 + 1)) same
    ∙ counted xs front n big is (subst (λ k. get_or xs k 0 < 57) same low)
