use Rattle.std.proofs.Common.{[], None}
use Rattle.tx_trace.proofs.Histories.{outward}
use Rattle.tx_trace.proofs.trace.Trace.new.Goals as goal

pub returns : goal.returns
returns c = outward [] c.new.result None c.new.ensures tt
