use Rattle.std.proofs.Common.{◌≡◌, ◌++◌}
use Rattle.tx_ring.specs.Markup.{each_of}
use Rattle.tx_acts.specs.Shown.{behind_at}
use Rattle.tx_acts.proofs.evidence.put_all.Given as goal

abbrev pub invariant-loop-i : goal.invariant-loop-i
invariant-loop-i l = l.out.items ≡ l.fn.out.items ++ each_of (behind_at l.history l.ops) l.i
