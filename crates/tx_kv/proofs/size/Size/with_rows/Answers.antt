use Rattle.std.proofs.Common.{◌≡◌, ◌+◌, ◌++◌, ◌∷◌, [], ap, List, subst, sym, take, ◌∙◌}
use Rattle.std.proofs.lemmas.List.{take_more}
use Rattle.tx_types.specs.declared.mutation.KeyValue.{KeyValue}
use Rattle.tx_kv.specs.Sizes.{size_of}
use Rattle.tx_kv.proofs.Sizes.{append_more, append_none}
use Rattle.tx_kv.proofs.size.Size.with_rows.Goals as goal

pub loop-row-init : goal.loop-row-init
loop-row-init c =
    λ before is. subst (λ (rows : List KeyValue). c.args.self ≡ size_of rows) (sym (append_none before)) is

pub loop-row-preserved : goal.loop-row-preserved
loop-row-preserved c =
    λ before is.
    let rows = c.args.rows.now in
    let i = c.loop-row.row-index in
    let row = c.row-item.result in
    let more : take (i + 1) rows ≡ take i rows ++ row ∷ [] =
    subst (λ (r : KeyValue). take (i + 1) rows ≡ take i rows ++ r ∷ []) (sym c.row-item.is)
    (take_more rows i row c.loop-row-test.true) in
    subst (λ (all : List KeyValue). c.with_row-size.result ≡ size_of all)
    (append_more before (take i rows) (row ∷ []) ∙ ap (λ (ys : List KeyValue). before ++ ys) (sym more))
    (c.with_row-size.ensures (before ++ take i rows) (c.loop-row.invariant before is))
