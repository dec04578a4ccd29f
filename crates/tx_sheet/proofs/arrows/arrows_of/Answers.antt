use Rattle.std.proofs.Common.{◌<◌, [], length, take_all, subst, arith}
use Rattle.std.specs.Prelude.{Any}
use Rattle.tx_sheet.specs.Arrows.{GoesTo, IsCollected, Gains}
use Rattle.tx_sheet.proofs.MoreArrows.{takings_on, gains_on, all_arrows}
use Rattle.tx_sheet.proofs.arrows.arrows_of.Goals as goal

pub takings-preserved : goal.takings-preserved
takings-preserved c =
    let xs = c.args.takings.now in
    let i = c.takings.taking-index in
    let within : i < length xs = omega (arith, c.takings-test.true) in
    takings_on c.args.keys.now xs i c.taking-item.result within c.taking-item.is c.takings.arrows.items
    c.put_arrows.new.arrows.items c.takings.invariant c.in_ok-put_arrows.ensures

pub returns : goal.returns
returns c =
    let keys = c.args.keys.now in
    let xs = c.args.takings.now in
    let cs = c.args.changes.now in
    let i = c.takings.taking-index in
    let all = subst (λ ys. Gains [] c.takings.arrows.items (λ x. Any (λ u. GoesTo keys u x) ys))
    (take_all i xs (omega (arith, c.takings-test.false))) c.takings.invariant in
    all_arrows keys xs cs c.put_collected.new.arrows.items
    (gains_on [] c.takings.arrows.items c.put_collected.new.arrows.items (λ x. Any (λ u. GoesTo keys u x) xs)
    (IsCollected xs cs) all c.in_ok-put_collected.ensures)
