use Rattle.std.proofs.Common.{◌≡◌, ◌<◌, ◌+◌, ◌-◌, length, drop, subst, arith}
use Rattle.std.specs.Prelude.{All, Contains}
use Rattle.tx_sheet.proofs.Others.{known_more}
use Rattle.tx_sheet.proofs.change.end_of.Goals as goal

pub ends-preserved : goal.ends-preserved
ends-preserved c =
    let some = c.args.some.now in
    let others = c.args.others.now in
    let end = c.ends.end in
    let left = c.ends.left in
    let within : end - 1 < length some = omega (arith, c.ends-test.true, c.ends.invariant.0) in
    let there : left - 1 < length others = omega (arith, c.if-left-gt0.true, c.ends.invariant.1) in
    let more : end ≡ (end - 1) + 1 = omega (arith, c.ends-test.true) in (
      omega (arith, within),
      omega (arith, there),
      known_more some others (end - 1) (left - 1) _ within there (c.is_same.ensures.0 c.if-is_same.true)
          (subst (λ n. All (Contains others) (drop n some)) more c.ends.invariant.2),
    )
