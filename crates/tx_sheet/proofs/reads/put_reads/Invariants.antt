use Rattle.std.proofs.Common.{◌<◌}
use Rattle.tx_sheet.specs.Reads.{IsReading, Learns}
use Rattle.tx_sheet.proofs.reads.put_reads.Given as goal

abbrev pub invariant-keys : goal.invariant-keys
invariant-keys l = Learns l.fn.reads.items l.reads.items (λ k f. IsReading l.keys l.taking k f × (k < l.place))
