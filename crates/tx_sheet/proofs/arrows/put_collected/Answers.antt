use Rattle.std.proofs.Common.{◌≡◌, false}
use Rattle.std.specs.Prelude.{Any}
use Rattle.tx_sheet.specs.Arrows.{IsCollected, Gains}
use Rattle.tx_sheet.proofs.Lists.{on_ok}
use Rattle.tx_sheet.proofs.MoreArrows.{gains_as, gains_none}
use Rattle.tx_sheet.proofs.arrows.put_collected.Goals as goal

pub returns-then-collects : goal.returns-then-collects
returns-then-collects c =
    let a = c.args.arrows.now.items in
    let b = c.put_changed.new.arrows.items in
    let takings = c.args.takings.now in
    let changes = c.args.changes.now in
    let some = c.collects.ensures.0 c.if-collects.true in
    on_ok c.put_changed.result
    (Gains a b (λ x. Any (λ d. d.key ≡ x.key) changes × (x.meets_lock ≡ false)))
    (Gains a b (IsCollected takings changes))
    (λ g. gains_as a b (λ x. Any (λ d. d.key ≡ x.key) changes × (x.meets_lock ≡ false)) (IsCollected takings changes)
    (λ x w. record { collects = some; changed = w.0; meets = w.1 }) (λ x w. (w.changed, w.meets)) g)
    c.put_changed.ensures

pub returns-else-collects : goal.returns-else-collects
returns-else-collects c = gains_none c.args.arrows.now.items (IsCollected c.args.takings.now c.args.changes.now)
    (λ x w. cc (c.collects.ensures.1 w.collects, c.if-collects.false))
