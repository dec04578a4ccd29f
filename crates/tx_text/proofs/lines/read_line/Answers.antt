use Rattle.std.proofs.Common.{arith}
use Rattle.tx_text.proofs.TextLines.{rest_taken, part_taken, part_plain, line_found, long_found, last_found, found_long}
use Rattle.tx_text.proofs.lines.read_line.Goals as goal

pub returns-in-Nothing-2-clause-reads : goal.returns-in-Nothing-2-clause-reads
returns-in-Nothing-2-clause-reads g c =
    let inv = c.parts.invariant in
    let took = rw c.in-Nothing-2.is at c.in_ok-take_some.ensures in
    last_found _ _ _ _ _ took.0 inv.1 inv.0 (grind arith) inv.2 took.1 took.2

pub returns-in-Rest-clause-reads : goal.returns-in-Rest-clause-reads
returns-in-Rest-clause-reads g c =
    let inv = c.parts.invariant in
    let took = rw c.in-Rest.is at c.in_ok-take_some.ensures in
    long_found _ _ _ (part_plain _ _ _ took.1 inv.1 took.2) (omega arith) (rest_taken _ _ _ _ _ _ took.1 inv.2 took.3)

pub returns-in-Rest-2-clause-reads : goal.returns-in-Rest-2-clause-reads
returns-in-Rest-2-clause-reads g c =
    let inv = c.parts.invariant in
    let took = rw c.in-Rest-2.is at c.in_ok-take_some.ensures in
    line_found _ _ _ (part_plain _ _ _ took.1 inv.1 took.2) (omega arith) (rest_taken _ _ _ _ _ _ took.1 inv.2 took.3)

pub returns-then-len-gt-MAX_LINE_BYTES-2-clause-reads : goal.returns-then-len-gt-MAX_LINE_BYTES-2-clause-reads
returns-then-len-gt-MAX_LINE_BYTES-2-clause-reads g c =
    let inv = c.parts.invariant in
    let took = rw c.in-Part.is at c.in_ok-take_some.ensures in
    found_long _ _ _ (part_plain _ _ _ took.1 inv.1 took.2) (omega arith) (part_taken _ _ _ _ _ _ took.1 inv.2 took.3)
