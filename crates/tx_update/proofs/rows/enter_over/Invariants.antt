use Rattle.std.proofs.Common.{take}
use Rattle.std.specs.Prelude.{Some}
use Rattle.tx_update.specs.Ranges.{AreEntered, is_in_range}
use Rattle.tx_update.proofs.rows.enter_over.Given as goal

-- the changes so far are entered
abbrev pub invariant-loop-i : goal.invariant-loop-i
invariant-loop-i l =
    AreEntered (is_in_range (Some l.range.from) l.range.to) (take l.i l.changes) l.fn.rows.items l.rows.items
