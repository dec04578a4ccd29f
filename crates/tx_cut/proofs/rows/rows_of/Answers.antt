use Rattle.std.proofs.Common.{◌++◌, ◌+◌, take, ap, ◌∙◌}
use Rattle.tx_sheet.specs.declared.row.Row.{Row}
use Rattle.tx_cut.specs.Parts.{if_shown, shown_behind}
use Rattle.tx_cut.proofs.ShownRows.{shown_more}
use Rattle.tx_cut.proofs.rows.rows_of.Goals as goal

pub loop-place-preserved : goal.loop-place-preserved
loop-place-preserved c =
    let cut = c.args.cut in
    let named = c.args.named.now in
    let rows = c.args.rows.now in
    let at = c.loop-place.place in
    let row = c.index-rows-place.result in
    c.in_ok-put_row.ensures ∙ ap (λ xs. xs ++ if_shown cut named (at + 1) row) c.loop-place.invariant
    ∙ ap (λ (r : Row). shown_behind cut named 0 (take at rows) ++ if_shown cut named (at + 1) r)
    c.index-rows-place.is
    ∙ shown_more cut named rows at row c.loop-place-test.true
