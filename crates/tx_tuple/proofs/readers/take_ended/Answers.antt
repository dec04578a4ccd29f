use Rattle.std.proofs.Common.{arith}
use Rattle.tx_tuple.proofs.Fronts.{left_ended, second_is}
use Rattle.tx_tuple.proofs.readers.take_ended.Goals as goal

pub returns-in_default-after : goal.returns-in_default-after
returns-in_default-after c = λ other after e.
    let rest = c.loop-rest.rest.now in
    let l = left_ended c.args.bytes.now c.loop-rest.out.items rest other after c.loop-rest.invariant e in
    omega (arith, l.long, (second_is rest).0)

pub returns-then-mark : goal.returns-then-mark
returns-then-mark c = λ other after e.
    let rest = c.loop-rest.rest.now in
    let l = left_ended c.args.bytes.now c.loop-rest.out.items rest other after c.loop-rest.invariant e in
    let mark = l.mark c.if-byte-ne0.false in
    omega (arith, mark, (second_is rest).1)

pub returns : goal.returns
returns c = λ other after e.
    let l = left_ended c.args.bytes.now c.loop-rest.out.items c.loop-rest.rest.now other after c.loop-rest.invariant
    e in
    omega (arith, l.long)
