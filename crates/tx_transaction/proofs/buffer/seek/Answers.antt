use Rattle.std.proofs.Common.{Some, arith, ap, sym, ◌∙◌, ◌<◌, length}
use Rattle.tx_transaction.proofs.Lookups.{first_there, nowhere}
use Rattle.tx_transaction.proofs.buffer.seek.Goals as goal

pub returns-then-is_at : goal.returns-then-is_at
returns-then-is_at c =
    let lt : c.loop-i.i < length c.args.buffer.now = omega (arith, c.len-i-end.ensures.len) in
    ap Some c.mutation_at.ensures
    ∙ sym (first_there c.args.buffer.now c.args.key.now c.loop-i.i lt c.loop-i.invariant (sym c.if-is_at.ensures))

pub returns : goal.returns
returns c = sym (nowhere c.args.buffer.now c.args.key.now
    (λ k lt. c.loop-i.invariant k (omega (arith, c.len-i-end.ensures.len))))
