use Rattle.std.proofs.Common.{◌≡◌, ◌+◌, ◌++◌, ◌∷◌, [], List, rules, subst, sym, take}
use Rattle.std.proofs.lemmas.List.{take_more}
use Rattle.tx_types.specs.declared.mutation.KeyValue.{KeyValue}
use Rattle.tx_kv.specs.Counters.{counted}
use Rattle.tx_kv.specs.NumberValues.{number_of, or_zero, sum_of}
use Rattle.tx_kv.proofs.Sizes.{sum_more}
use Rattle.tx_kv.proofs.numbers.sum_of.Goals as goal

pub loop-row-preserved : goal.loop-row-preserved
loop-row-preserved c =
    let rows = c.args.rows.now in
    let i = c.loop-row.row-index in
    let row = c.row-item.result in
    let more : take (i + 1) rows ≡ take i rows ++ row ∷ [] =
    subst (λ (r : KeyValue). take (i + 1) rows ≡ take i rows ++ r ∷ []) (sym c.row-item.is)
    (take_more rows i row c.loop-row-test.true) in
    let number : c.unwrap_or.result ≡ or_zero (number_of row.value) = search rules in
    subst (λ (all : List KeyValue). c.saturating_add-sum.result ≡ sum_of all) (sym more)
    (sum_more (take i rows) row c.loop-row.sum c.unwrap_or.result c.saturating_add-sum.result c.loop-row.invariant
    number c.saturating_add-sum.ensures)
