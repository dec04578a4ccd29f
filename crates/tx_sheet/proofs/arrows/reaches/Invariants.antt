use Rattle.std.proofs.Common.{◌≡◌, drop}
use Rattle.tx_types.specs.Keys.{reaches}
use Rattle.tx_sheet.proofs.arrows.reaches.Given as goal

abbrev pub invariant-rows : goal.invariant-rows
invariant-rows l = reaches (drop l.row-index l.rows) l.key ≡ reaches l.rows l.key
