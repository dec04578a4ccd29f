use Rattle.std.proofs.Common.{ap, Some}
use Rattle.tx_codec.proofs.Parts.{Takes-whole, not_empty}
use Rattle.tx_codec.proofs.records.decode_lock.Goals as goal

pub returns-then-not-is_empty-clause-only : goal.returns-then-not-is_empty-clause-only
returns-then-not-is_empty-clause-only c = λ lock is e.
    let whole = Takes-whole c.in-Ok.ensures lock is e in
    absurd (not_empty c.in-Ok.rest.now whole.1 c.if-not-is_empty.ensures)

pub returns-else-not-is_empty-clause-only : goal.returns-else-not-is_empty-clause-only
returns-else-not-is_empty-clause-only c = λ lock is e.
    let whole = Takes-whole c.in-Ok.ensures lock is e in
    ap Some whole.0
