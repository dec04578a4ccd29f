use Rattle.std.proofs.Common.{◌≡◌, ◌<◌, ◌≤◌, length, refl, arith}
use Rattle.std.specs.Prelude.{string_bytes}
use Rattle.tx_sheet.specs.declared.row.KeyRead.{KeyRead}
use Rattle.tx_sheet.proofs.Lists.{any_here, none_more, none_any}
use Rattle.tx_sheet.proofs.reads.knows.Goals as goal

pub returns-then-tells : goal.returns-then-tells
returns-then-tells c =
    let xs = c.args.reads.now in
    let within : c.reads.read-index < length xs = omega (arith, c.reads-test.true) in (
      λ e. any_here (λ (r : KeyRead). (r.key ≡ c.args.place) × (string_bytes r.found ≡ c.args.text.now)) xs
          c.reads.read-index c.read-item.result within c.read-item.is (c.tells.ensures.0 c.if-tells.true),
      λ h. refl,
    )

pub reads-preserved : goal.reads-preserved
reads-preserved c =
    let xs = c.args.reads.now in
    let within : c.reads.read-index < length xs = omega (arith, c.reads-test.true) in
    none_more (λ (r : KeyRead). (r.key ≡ c.args.place) × (string_bytes r.found ≡ c.args.text.now)) xs
    c.reads.read-index c.read-item.result within c.read-item.is (λ e. cc (c.tells.ensures.1 e, c.if-tells.false))
    c.reads.invariant

pub returns : goal.returns
returns c =
    let xs = c.args.reads.now in
    let over : length xs ≤ c.reads.read-index = omega (arith, c.reads-test.false) in (
      λ e. absurd (cc (e)),
      λ h. absurd (none_any (λ (r : KeyRead). (r.key ≡ c.args.place) × (string_bytes r.found ≡ c.args.text.now)) xs
          c.reads.read-index over c.reads.invariant h),
    )
