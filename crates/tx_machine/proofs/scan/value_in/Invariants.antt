use Rattle.std.proofs.Common.{◌≡◌, drop}
use Rattle.tx_types.specs.Keys.{value_in}
use Rattle.tx_machine.proofs.scan.value_in.Given as goal

abbrev pub invariant-loop-row : goal.invariant-loop-row
invariant-loop-row l = value_in l.rows l.key ≡ value_in (drop l.row-index l.rows) l.key
