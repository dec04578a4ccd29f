use Rattle.std.proofs.Common.{refl}
use Rattle.tx_text.specs.Scan.{text, digits, none}
use Rattle.tx_text.proofs.scan.member.Goals as goal

pub returns-in-Some-clause-begins : goal.returns-in-Some-clause-begins
returns-in-Some-clause-begins c = (text c.in-Some.text.now, c.in-Some.ensures.begins, refl)

pub returns-in-Some-number-clause-begins : goal.returns-in-Some-number-clause-begins
returns-in-Some-number-clause-begins c =
    let found = c.in-Some-number.ensures.begins in
    (digits found.0 c.in-Some-number.n found.2, found.1, refl)

pub returns-clause-begins : goal.returns-clause-begins
returns-clause-begins c = (none, c.in_ok-after.ensures.begins, refl)
