use Rattle.std.proofs.Common.{◌≡◌, ◌++◌}
use Rattle.tx_ring.specs.Markup.{each_of, marked_byte}
use Rattle.tx_ring.proofs.markup.put_text.Given as goal

abbrev pub invariant-loop-i : goal.invariant-loop-i
invariant-loop-i l = l.out.items ≡ l.fn.out.items ++ each_of (marked_byte l.text) l.i
