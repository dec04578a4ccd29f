use Rattle.std.proofs.Common.{◌≡◌, ◌++◌, take}
use Rattle.std.specs.List.{flat_map}
use Rattle.tx_diagram.specs.Drawings.{drawn_byte}
use Rattle.tx_diagram.proofs.drawing.put_bytes.Given as goal

abbrev pub invariant-loop-byte : goal.invariant-loop-byte
invariant-loop-byte l = l.out.items ≡ l.fn.out.items ++ flat_map drawn_byte (take l.byte-index l.text)
