use Rattle.std.proofs.Common.{◌≡◌, length}
use Rattle.tx_sheet.proofs.sheet.columns_of.Given as goal

abbrev pub invariant-keys : goal.invariant-keys
invariant-keys l = length l.columns.items ≡ l.key-index
