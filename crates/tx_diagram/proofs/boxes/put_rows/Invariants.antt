use Rattle.std.proofs.Common.{◌≡◌, ◌++◌}
use Rattle.tx_ring.specs.Markup.{each_of}
use Rattle.tx_diagram.specs.Boxes.{op_row}
use Rattle.tx_diagram.proofs.boxes.put_rows.Given as goal

abbrev pub invariant-loop-i : goal.invariant-loop-i
invariant-loop-i l = l.out.items ≡ l.fn.out.items ++ each_of (op_row l.history l.ops) l.i
