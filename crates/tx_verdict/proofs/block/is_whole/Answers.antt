-- In place of all, or at its place behind what there was.
use Rattle.std.proofs.Common.{◌<◌, ◌-◌, ◌++◌, length, drop, get_or, arith, sym, ap, ◌∙◌, subst}
use Rattle.std.proofs.lemmas.List.{take_all, length-drop}
use Rattle.tx_verdict.proofs.Torn.{torn_cleared, torn_other, torn_early, torn_at}
use Rattle.tx_verdict.proofs.block.is_whole.Goals as goal

pub returns-then-effect : goal.returns-then-effect
returns-then-effect c not_so =
    torn_cleared c.args.list.now c.args.effect.now c.args.i c.if-effect.true
    (λ rest is. c.begins.ensures not_so rest (is ∙ ap (λ q. q ++ rest) (sym c.as_slice-own.ensures.value)))

pub returns-in_default : goal.returns-in_default
returns-in_default c _ =
    torn_other c.args.list.now c.args.effect.now c.args.i c.if-effect.false
    (λ j lt is. c.in_default.ensures.none j (subst (λ q. j < length q) (sym c.as_slice-own.ensures.value) lt)
    (ap (λ q. get_or q j 0) c.as_slice-own.ensures.value ∙ is))

pub returns-then-j-i : goal.returns-then-j-i
returns-then-j-i c _ =
    torn_early c.args.list.now c.args.effect.now c.args.i c.in-Some.j c.if-effect.false c.requires.once
    (subst (λ q. c.in-Some.j < length q) c.as_slice-own.ensures.value c.in-Some.ensures.some.0)
    (sym (ap (λ q. get_or q c.in-Some.j 0) c.as_slice-own.ensures.value) ∙ c.in-Some.ensures.some.1) c.if-j-i.true

pub returns : goal.returns
returns c not_so =
    let k = c.args.i - c.in-Some.j in
    torn_at c.args.list.now c.args.effect.now c.args.i c.in-Some.j c.if-effect.false c.requires.once
    (subst (λ q. c.in-Some.j < length q) c.as_slice-own.ensures.value c.in-Some.ensures.some.0)
    (sym (ap (λ q. get_or q c.in-Some.j 0) c.as_slice-own.ensures.value) ∙ c.in-Some.ensures.some.1)
    (λ rest is. c.begins-2.ensures not_so rest (take_all (length c.args.list.now - k) (drop k c.args.list.now)
    (let n = length-drop k c.args.list.now in omega (arith, n)) ∙ is
    ∙ ap (λ q. q ++ rest) (sym c.as_slice-own.ensures.value)))
