use Rattle.std.proofs.Common.{◌≡◌, ◌++◌}
use Rattle.tx_ring.specs.Markup.{each_of}
use Rattle.tx_diagram.specs.Pictures.{piece_at}
use Rattle.tx_diagram.proofs.picture.put_pieces.Given as goal

abbrev pub invariant-loop-i : goal.invariant-loop-i
invariant-loop-i l = l.out.items ≡ l.fn.out.items ++ each_of (piece_at l.history l.keys l.rows l.steps) l.i
