use Rattle.std.proofs.Common.{[], take}
use Rattle.std.specs.Prelude.{Any}
use Rattle.tx_sheet.specs.Reads.{IsReading, Learns}
use Rattle.tx_sheet.proofs.reads.reads_of.Given as goal

abbrev pub invariant-takings : goal.invariant-takings
invariant-takings l = Learns [] l.reads.items
    (λ k f. Any (λ taking. IsReading l.keys taking k f) (take l.taking-index l.takings))
