use Rattle.std.proofs.Common.{◌-◌, refl, sym, arith}
use Rattle.tx_region.proofs.KeyFronts.{between}
use Rattle.tx_region.proofs.routes.route_by.Goals as goal

pub returns-then-is_reached : goal.returns-then-is_reached
returns-then-is_reached c =
    let bounds = c.args.bounds.now in
    let k = c.args.key.now in
    let n = c.first_from-index.result in
    let count = c.requires.fronts.0 in
    let upto = c.first_from-index.ensures in
    let is = c.front-front.ensures.value in
    let bytes = c.front-front.ensures.bytes in
    sym (between bounds c.requires.rising k n (omega (arith, upto, count)) (
    λ d some. (c.requires.fronts.1 (n - 1) d (omega (arith, upto, count, some)) k bytes).1
    (omega (arith, is, c.if-is_reached.ensures refl some))
    ) (λ d within. (c.requires.fronts.1 n d within k bytes).0
    (omega (arith, is, c.if-is_past.ensures refl (omega (arith, within, count))))))
