-- The operation puts a value.
use Rattle.tx_verdict.proofs.Small.{puts_at}
use Rattle.tx_verdict.proofs.fit.puts.Goals as goal

pub returns-in-Some : goal.returns-in-Some
returns-in-Some c _ =
    puts_at c.args.ops.now c.loop-i.i c.args.key c.in-Some.field-0 c.loop-i-test.true c.if-ops-i.false
    c.in-Some.ensures.some
