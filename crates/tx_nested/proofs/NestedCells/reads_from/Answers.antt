use Rattle.std.proofs.Common.{sym, ap, subst, ◌∙◌, ◌&&◌, true}
use Rattle.std.proofs.Math.Bool.{and-true}
use Rattle.tx_types.specs.declared.key.Key.{Key}
use Rattle.tx_types.specs.Keys.{key_le}
use Rattle.tx_plan.specs.Walks.{IsWalk}
use Rattle.tx_cells.specs.Contents.{cells_in}
use Rattle.tx_nested.specs.Nested.{nested_content, key_rows}
use Rattle.tx_nested.proofs.NestedRows.{filter_walk, filter_same}
use Rattle.tx_nested.proofs.NestedCells.reads_from.Goals as goal

pub returns-clause-walk : goal.returns-clause-walk
returns-clause-walk c =
    let from = c.args.from.now in
    let es = c.args.self.now.keys.entries in
    let spelt = c.in_ok-from.from in
    subst (λ w. IsWalk (cells_in (nested_content c.args.self.now)) (key_le from) (key_rows w))
    (filter_same (key_le from) (λ (k : Key). key_le spelt k
    && true) (λ k. ap (λ j. key_le j k) (sym c.in_ok-from.ensures) ∙ sym (and-true (key_le spelt k))) es
    ∙ sym (c.range.ensures.between tt))
    (filter_walk (key_le from) es c.range.ensures.ordered)
