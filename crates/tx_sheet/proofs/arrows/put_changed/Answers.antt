use Rattle.std.proofs.Common.{◌≡◌, ◌<◌, false, length, take_all, subst, arith}
use Rattle.std.specs.Prelude.{Any}
use Rattle.tx_sheet.specs.Arrows.{Gains}
use Rattle.tx_sheet.proofs.MoreArrows.{changed_on}
use Rattle.tx_sheet.proofs.arrows.put_changed.Goals as goal

pub changes-preserved : goal.changes-preserved
changes-preserved c =
    let xs = c.args.changes.now in
    let i = c.changes.change-index in
    let within : i < length xs = omega (arith, c.changes-test.true) in
    changed_on xs i c.change-item.result within c.change-item.is c.args.arrows.now.items c.changes.arrows.items
    c.put_arrow.new.arrows.items c.changes.invariant c.in_ok-put_arrow.ensures

pub returns : goal.returns
returns c =
    let xs = c.args.changes.now in
    let i = c.changes.change-index in
    subst (λ ys. Gains c.args.arrows.now.items c.changes.arrows.items
    (λ x. Any (λ d. d.key ≡ x.key) ys × (x.meets_lock ≡ false)))
    (take_all i xs (omega (arith, c.changes-test.false))) c.changes.invariant
