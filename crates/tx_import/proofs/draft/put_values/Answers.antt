use Rattle.std.proofs.Common.{◌≡◌, ◌++◌, ◌∷◌, [], arith}
use Rattle.tx_import.proofs.Extensions.{grows_then, values_more, within_more}
use Rattle.tx_import.proofs.draft.put_values.Goals as goal

pub loop-value-preserved : goal.loop-value-preserved
loop-value-preserved c =
    let before = c.loop-value.invariant in
    let mid = c.loop-value.values in
    let new = c.number.new.self in
    let n = c.in_ok-number.number in
    let value = c.value-item.result in
    let grows = c.in_ok-number.ensures.grows in
    let valued = c.in_ok-number.ensures.valued in
    let found = c.args.found.now in
    let pushed : c.push.new.self.items ≡ c.loop-value.elements.items ++ n ∷ [] = c.in_ok-push.ensures.items in (
      values_more mid new c.args.key c.args.elements.now.items c.loop-value.elements.items c.push.new.self.items
          found c.loop-value.value-index n _ c.loop-value-test.true c.value-item.is grows valued pushed before.0,
      grows_then c.args.values.now mid new before.1 grows,
      omega (arith, before.2, c.in_ok-number.ensures.few),
      λ all. within_more mid new c.args.key c.loop-value.elements.items c.push.new.self.items n _ grows valued pushed
          (before.3 all),
    )
