use Rattle.std.proofs.Common.{arith, sym}
use Rattle.tx_types.proofs.Fronts.{less_by_front, greater_by_front}
use Rattle.tx_types.proofs.key.KeyOrd.cmp.Goals as goal

pub returns-then-front-others : goal.returns-then-front-others
returns-then-front-others c =
    sym (greater_by_front c.args.self.now c.args.other.now c.front-front.ensures.bytes
    (omega (arith, c.if-front-others.true, c.front-front.ensures.value, c.front-others.ensures.value)))

pub returns-then-front-others-2 : goal.returns-then-front-others-2
returns-then-front-others-2 c =
    sym (less_by_front c.args.self.now c.args.other.now c.front-others.ensures.bytes
    (omega (arith, c.if-front-others-2.true, c.front-front.ensures.value, c.front-others.ensures.value)))
