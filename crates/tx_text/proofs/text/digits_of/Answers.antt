use Rattle.std.proofs.Common.{◌/◌, arith, sym}
use Rattle.itoa.proofs.Decimal.{length_one, length_two, length_pair, length_four}
use Rattle.tx_text.proofs.text.digits_of.Goals as goal

pub returns-then-n-lt10-clause-len : goal.returns-then-n-lt10-clause-len
returns-then-n-lt10-clause-len c = sym (length_one c.args.n c.if-n-lt10.true)

pub returns-else-n-lt10-clause-len : goal.returns-else-n-lt10-clause-len
returns-else-n-lt10-clause-len c = sym (length_two c.args.n c.if-n-lt10.false c.if-n-lt100.true)

pub returns-then-n-lt1000-clause-len : goal.returns-then-n-lt1000-clause-len
returns-then-n-lt1000-clause-len c =
    let n = c.args.n in
    omega (arith, length_pair n c.if-n-lt100.false (omega arith), length_one (n / 100) (omega arith))

pub returns-else-n-lt1000-clause-len : goal.returns-else-n-lt1000-clause-len
returns-else-n-lt1000-clause-len c =
    let n = c.args.n in
    omega (arith, length_pair n c.if-n-lt100.false (omega arith), length_two (n / 100) (omega arith) (omega arith))

pub returns-then-n-lt100000-clause-len : goal.returns-then-n-lt100000-clause-len
returns-then-n-lt100000-clause-len c =
    let n = c.args.n in
    omega (arith, length_four n c.if-n-lt10000.false (omega arith), length_one (n / 10000) (omega arith))

pub returns-else-n-lt100000-clause-len : goal.returns-else-n-lt100000-clause-len
returns-else-n-lt100000-clause-len c =
    let n = c.args.n in
    omega (arith, length_four n c.if-n-lt10000.false (omega arith), length_two (n / 10000) (omega arith) (omega arith))

pub returns-then-n-lt10000000-clause-len : goal.returns-then-n-lt10000000-clause-len
returns-then-n-lt10000000-clause-len c =
    let n = c.args.n in
    omega (
      arith,
      length_four n c.if-n-lt10000.false (omega arith),
      length_pair (n / 10000) (omega arith) (omega arith),
      length_one (n / 10000 / 100) (omega arith),
    )

pub returns-else-n-lt10000000-clause-len : goal.returns-else-n-lt10000000-clause-len
returns-else-n-lt10000000-clause-len c =
    let n = c.args.n in
    omega (
      arith,
      length_four n c.if-n-lt10000.false (omega arith),
      length_pair (n / 10000) (omega arith) (omega arith),
      length_two (n / 10000 / 100) (omega arith) (omega arith),
    )
