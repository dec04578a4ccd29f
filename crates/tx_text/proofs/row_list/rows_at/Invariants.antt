use Rattle.std.proofs.Common.{◌≤◌, length, drop}
use Rattle.tx_text.proofs.ListedRows.{ReadRows}
use Rattle.tx_text.proofs.row_list.rows_at.Given as goal

abbrev pub invariant-rows : goal.invariant-rows
invariant-rows l = (l.at ≤ length l.line) × ReadRows (drop l.from l.line) l.rows.items (drop l.at l.line)
