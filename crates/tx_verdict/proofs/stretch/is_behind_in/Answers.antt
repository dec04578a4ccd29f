-- Those of the chain come first, and the second is none of them.
use Rattle.std.proofs.Common.{arith}
use Rattle.std.proofs.lemmas.Grind.{common_steps}
use Rattle.tx_verdict.proofs.Trains.{behind_row}
use Rattle.tx_verdict.proofs.stretch.is_behind_in.Goals as goal

pub returns : goal.returns
returns c is = behind_row c.args.case.now.recording.now c.args.key c.writers_of-writers.result.now c.args.count
    c.args.first
    c.args.second (λ e. grind (arith, common_steps, e, c.if-count-eq0.false))
    (grind (arith, common_steps, c.if-writers-count.false)) (c.in_ok-row.ensures is)
    (c.is_other.ensures c.if-not-is_other.false)
