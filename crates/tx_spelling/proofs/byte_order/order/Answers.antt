use Rattle.std.proofs.Common.{refl, sym, ap, ◌∙◌, arith}
use Rattle.std.specs.Ordering.{nat_cmp}
use Rattle.byteorder.specs.Endian.{big_number}
use Rattle.tx_spelling.proofs.ByteOrder.{words_equal, words_unequal, AreBytes-drop, rest_is}
use Rattle.tx_spelling.proofs.byte_order.order.Goals as goal

pub words-init : goal.words-init
words-init c = (λ i. omega (arith, c.type_inv.a i), λ i. omega (arith, c.type_inv.b i), refl)

pub returns-then-first-second : goal.returns-then-first-second
returns-then-first-second c =
    let kept = c.words.invariant in
    let x = c.words.x.now in
    let y = c.words.y.now in
    let first = c.read_u64-first.ensures in
    let second = c.read_u64-second.ensures in
    c.cmp.ensures
    ∙ ap (λ n. nat_cmp n c.read_u64-second.result) first
    ∙ ap (nat_cmp (big_number 8 x)) second
    ∙ sym (words_unequal x y kept.0 kept.1 c.words-test.true c.if-y-ge-WORD.true
    (λ e. c.if-first-second.true (first ∙ e ∙ sym second)))
    ∙ sym kept.2

pub words-preserved : goal.words-preserved
words-preserved c =
    let kept = c.words.invariant in
    let x = c.words.x.now in
    let y = c.words.y.now in
    rw (rest_is x, rest_is y) (
      AreBytes-drop 8 x kept.0,
      AreBytes-drop 8 y kept.1,
      kept.2 ∙ words_equal x y kept.0 kept.1 c.words-test.true c.if-y-ge-WORD.true (sym c.read_u64-first.ensures
          ∙ c.if-first-second.false ∙ c.read_u64-second.ensures),
    )
