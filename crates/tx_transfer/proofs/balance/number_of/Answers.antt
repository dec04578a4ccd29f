use Rattle.std.proofs.Common.{ℕ, ◌+◌, ◌*◌, sym, subst, arith}
use Rattle.tx_transfer.proofs.Digits.{ReadsUpTo, reads_more, reads_less, reads_all, digit_at, all_of, few_of, balance_less}
use Rattle.tx_transfer.proofs.balance.number_of.Goals as goal

pub overflow_mul-number : goal.overflow_mul-number
overflow_mul-number c =
    let less = reads_less c.args.text.now c.loop-byte.byte-index c.loop-byte.number c.loop-byte-test.true
    (few_of c.args.text.now c.requires) c.loop-byte.invariant in
    omega (arith, less)

pub overflow_add-number : goal.overflow_add-number
overflow_add-number c =
    let less = reads_less c.args.text.now c.loop-byte.byte-index c.loop-byte.number c.loop-byte-test.true
    (few_of c.args.text.now c.requires) c.loop-byte.invariant in
    let digit = digit_at c.args.text.now c.loop-byte.byte-index (all_of c.args.text.now c.requires)
    c.loop-byte-test.true in
    omega (arith, less, digit.1)

pub loop-byte-preserved : goal.loop-byte-preserved
loop-byte-preserved c =
    subst (λ (d : ℕ). ReadsUpTo c.args.text.now (c.loop-byte.byte-index + 1) (c.loop-byte.number * 10 + d))
    (sym c.from.ensures) (reads_more c.args.text.now
    c.loop-byte.byte-index c.loop-byte.number (all_of c.args.text.now c.requires) c.loop-byte-test.true
    c.loop-byte.invariant)

pub returns-clause-most : goal.returns-clause-most
returns-clause-most c =
    rw (reads_all c.args.text.now c.loop-byte.byte-index c.loop-byte.number c.loop-byte-test.false
    c.loop-byte.invariant) (balance_less c.args.text.now c.requires)
