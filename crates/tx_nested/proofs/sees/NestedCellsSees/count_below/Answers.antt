use Rattle.std.proofs.Common.{◌+◌, ◌∷◌, length, sym, ap, subst, ◌∙◌}
use Rattle.tx_plan.specs.Walks.{KeyRow}
use Rattle.tx_plan.proofs.DropCounts.{DroppedTo, drop_starts, drop_more}
use Rattle.tx_cells.specs.Contents.{cells_in, cells_of}
use Rattle.tx_nested.specs.Nested.{held, nested_content, key_rows}
use Rattle.tx_nested.proofs.NestedRows.{whole_walk}
use Rattle.tx_nested.proofs.sees.NestedCellsSees.count_below.Goals as goal

pub keys-init : goal.keys-init
keys-init c =
    let cells = cells_in (nested_content c.args.self.now) in
    let es = c.args.self.now.keys.entries in
    subst (λ w. DroppedTo cells c.args.safe (key_rows w) 0 0) (sym c.iter-keys.ensures.rest)
    (drop_starts cells c.args.safe (key_rows es) (whole_walk es c.iter-keys.ensures.ordered))

pub keys-preserved : goal.keys-preserved
keys-preserved c =
    let cells = cells_in (nested_content c.args.self.now) in
    let rest = key_rows c.next.new.self in
    let gone = c.collection-gone.ensures.counts in
    let x : KeyRow = record { key = c.in-Some.field-0-0.now; cells = cells_of (held c.in-Some.on_key.now) } in
    let so : DroppedTo cells c.args.safe (x ∷ rest) c.keys.records c.keys.values =
    subst (λ w. DroppedTo cells c.args.safe (key_rows w) c.keys.records c.keys.values) c.in-Some.ensures.steps
    c.keys.invariant in
    let more = drop_more cells c.args.safe x rest c.keys.records c.keys.values so gone.0 gone.1 in
    let records = c.in_ok-records.ensures.ok ∙ ap (λ n. c.keys.records + n) gone.2 in
    let values = c.in_ok-values.ensures.ok ∙ ap (λ n. c.keys.values + n) gone.3 in
    subst (λ n. DroppedTo cells c.args.safe rest n c.in_ok-values.values) (sym records)
    (subst (λ n. DroppedTo cells c.args.safe rest (c.keys.records + length gone.0) n) (sym values) more)
