-- It comes right behind the one before it.
use Rattle.std.proofs.Common.{arith}
use Rattle.std.proofs.lemmas.Grind.{common_steps}
use Rattle.tx_verdict.proofs.Trains.{next_at}
use Rattle.tx_verdict.proofs.stretch.is_next_in.Goals as goal

pub returns : goal.returns
returns c is = next_at c.args.case.now.recording.now c.args.key c.writers_of-writers.result.now c.args.place
    c.args.first c.args.second
    (c.in_ok-based.ensures is) (λ e. grind (arith, common_steps, e, c.if-at-eq0.false))
    (grind (arith, common_steps, c.if-writers-at.false)) (grind (arith, common_steps, c.if-writers-at-2.false))
