use Rattle.std.proofs.Common.{[], Some}
use Rattle.tx_trace.proofs.Histories.{outward}
use Rattle.tx_trace.proofs.trace.Trace.with_takings.Goals as goal

pub returns : goal.returns
returns c = outward [] c.new.result (Some c.new-2.result) c.new.ensures c.new-2.ensures
