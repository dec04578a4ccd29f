use Rattle.std.proofs.Common.{◌≡◌, map, take}
use Rattle.tx_sheet.specs.Seen.{record_of}
use Rattle.tx_sheet.proofs.key_state.records_of.Given as goal

abbrev pub invariant-records : goal.invariant-records
invariant-records l = l.seen.items ≡ map record_of (take l.at-index l.records)
