use Rattle.std.proofs.Common.{◌≡◌, drop}
use Rattle.tx_types.specs.Keys.{value_in}
use Rattle.tx_sheet.proofs.reads.value_in.Given as goal

abbrev pub invariant-rows : goal.invariant-rows
invariant-rows l = value_in (drop l.row-index l.rows) l.key ≡ value_in l.rows l.key
