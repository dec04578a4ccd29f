use Rattle.std.proofs.Common.{◌≡◌, ◌<◌, ◌∙◌, false, length, rules, sym, subst, true}
use Rattle.tx_kv.specs.Bounds.{are_rising}
use Rattle.tx_kv.proofs.KeyOrder.{rises, two_fall}
use Rattle.tx_kv.proofs.store.journal.Goals as goal

pub new-requires-clause-rising : goal.new-requires-clause-rising
new-requires-clause-rising c =
    rises c.in_ok-keys.keys.items
    (subst (λ ks. are_rising ks ≡ true) c.as_slice.ensures.value
    (sym c.are_rising.ensures ∙ c.if-not-are_rising.false))

pub returns-then-not-are_rising-clause-err : goal.returns-then-not-are_rising-clause-err
returns-then-not-are_rising-clause-err c =
    let two : 1 < length c.in_ok-keys.keys.items =
    two_fall c.in_ok-keys.keys.items
    (subst (λ ks. are_rising ks ≡ false) c.as_slice.ensures.value
    (sym c.are_rising.ensures ∙ c.if-not-are_rising.true)) in
    let count = c.in_ok-keys.ensures.count in
    search rules
