use Rattle.std.proofs.Common.{sym}
use Rattle.tx_machine.proofs.Differences.{value_here, value_next, value_none}
use Rattle.tx_machine.proofs.scan.value_in.Goals as goal

pub loop-row-preserved : goal.loop-row-preserved
loop-row-preserved c =
    value_next c.args.rows.now c.loop-row.row-index c.row-item.result c.args.key.now c.loop-row-test.true c.row-item.is
    c.loop-row.invariant (sym c.if-eq.ensures)

pub returns-then-eq : goal.returns-then-eq
returns-then-eq c =
    sym (value_here c.args.rows.now c.loop-row.row-index c.row-item.result c.args.key.now c.loop-row-test.true
    c.row-item.is c.loop-row.invariant (sym c.if-eq.ensures))

pub returns : goal.returns
returns c = sym (value_none c.args.rows.now c.loop-row.row-index c.args.key.now c.loop-row-test.false
    c.loop-row.invariant)
