use Rattle.std.proofs.Common.{arith}
use Rattle.tx_text.proofs.Plains.{runs_over, runs_upto}
use Rattle.tx_text.proofs.scan.plain_end.Goals as goal

pub returns-then-plain-lt-BLOCK-clause-runs : goal.returns-then-plain-lt-BLOCK-clause-runs
returns-then-plain-lt-BLOCK-clause-runs c =
    runs_over c.args.bytes.now c.args.from c.lanes.at c.plain_in-plain.result (omega arith) (omega arith)
    c.plain_in-plain.ensures.plain c.lanes.invariant.2

pub lanes-preserved : goal.lanes-preserved
lanes-preserved c = (
  omega arith,
  omega arith,
  runs_over c.args.bytes.now c.args.from c.lanes.at c.plain_in-plain.result (omega arith) (omega arith)
      c.plain_in-plain.ensures.plain c.lanes.invariant.2,
)

pub returns-clause-runs : goal.returns-clause-runs
returns-clause-runs c =
    runs_upto c.args.bytes.now c.args.from c.lanes.at c.plain_end_from.result (omega arith) (omega arith) (omega arith)
    c.plain_end_from.ensures.plain c.lanes.invariant.2
