use Rattle.std.proofs.Common.{arith, sym, ◌∙◌, length, inl, inr, ◌⊎◌, ◌≡◌}
use Rattle.std.proofs.lemmas.Bool.{cases_lt}
use Rattle.tx_types.proofs.ByteOrder.{lengths_decide}
use Rattle.tx_types.proofs.order.order.Goals as goal

pub returns-else-at-both : goal.returns-else-at-both
returns-else-at-both c =
    let a = c.args.a.now in
    let b = c.args.b.now in
    let at = c.bytes.at in
    let least = c.min-both.ensures in
    let one : (length a ≡ at) ⊎ (length b ≡ at) =
    elim (cases_lt (length a) (length b)) [
      | inl l ↦ inl (omega (arith, least, l))
      | inr g ↦
          inr (omega (arith, least, g))
    ] in
    c.cmp-else-at-both.ensures ∙ sym (lengths_decide a b at (omega (arith, least)) (omega (arith, least)) one)
    ∙ sym c.bytes.invariant.1
