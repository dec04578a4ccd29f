use Rattle.std.proofs.Common.{arith, ◌<◌, length}
use Rattle.tx_transaction.proofs.Places.{first_found}
use Rattle.tx_transaction.proofs.Heads.{settled_up, first_is}
use Rattle.tx_transaction.proofs.buffer.index_of.Goals as goal

pub returns-in-Some-clause-index : goal.returns-in-Some-clause-index
returns-in-Some-clause-index c =
    let found = c.in-Some.ensures.found in
    let lt : c.in-Some.i < length c.args.buffer.now = omega (arith, found.0, c.settled-from.ensures.within) in
    first_found c.args.phase c.args.buffer.now c.in-Some.i lt (λ k less. found.2 k (omega arith) less) found.1

pub returns-clause-index : goal.returns-clause-index
returns-clause-index c =
    first_is c.args.phase c.args.buffer.now c.settled-from.result.1 c.len.result c.index_between-2.result
    (settled_up c.args.phase c.args.buffer.now c.settled-from.result.0 c.settled-from.result.1
    c.in_default.ensures.absent c.settled-from.ensures.settled)
    c.len.ensures.len c.index_between-2.ensures.found c.index_between-2.ensures.absent
