use Rattle.std.proofs.Common.{◌≡◌}
use Rattle.tx_ring.specs.Markup.{each_of}
use Rattle.tx_diagram.specs.Pictures.{key_at}
use Rattle.tx_diagram.proofs.picture.keys_of.Given as goal

abbrev pub invariant-loop-i : goal.invariant-loop-i
invariant-loop-i l = l.keys.items ≡ each_of (key_at l.steps) l.i
