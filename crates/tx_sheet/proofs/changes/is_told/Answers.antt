use Rattle.std.proofs.Common.{◌≡◌, ◌<◌, ◌≤◌, length, refl, arith}
use Rattle.tx_sheet.specs.declared.row.Change.{Change}
use Rattle.tx_sheet.proofs.Lists.{any_here, none_more, none_any}
use Rattle.tx_sheet.proofs.changes.is_told.Goals as goal

pub returns-then-is_of : goal.returns-then-is_of
returns-then-is_of c =
    let xs = c.args.changes.now in
    let within : c.changes.change-index < length xs = omega (arith, c.changes-test.true) in (
      λ e. any_here (λ (d : Change). d.key ≡ c.args.key) xs c.changes.change-index c.change-item.result within
          c.change-item.is (c.is_of.ensures.0 c.if-is_of.true),
      λ h. refl,
    )

pub changes-preserved : goal.changes-preserved
changes-preserved c =
    let xs = c.args.changes.now in
    let within : c.changes.change-index < length xs = omega (arith, c.changes-test.true) in
    none_more (λ (d : Change). d.key ≡ c.args.key) xs c.changes.change-index c.change-item.result within
    c.change-item.is (λ e. cc (c.is_of.ensures.1 e, c.if-is_of.false)) c.changes.invariant

pub returns : goal.returns
returns c =
    let xs = c.args.changes.now in
    let over : length xs ≤ c.changes.change-index = omega (arith, c.changes-test.false) in (
      λ e. absurd (cc (e)),
      λ h. absurd (none_any (λ (d : Change). d.key ≡ c.args.key) xs c.changes.change-index over c.changes.invariant h),
    )
