use Rattle.std.proofs.Common.{take}
use Rattle.tx_sheet.specs.Changes.{AreOthers}
use Rattle.tx_sheet.proofs.change.others_of.Given as goal

abbrev pub invariant-records : goal.invariant-records
invariant-records l = AreOthers l.others (take l.seen-index l.first) l.found.items
