use Rattle.std.proofs.Common.{◌≡◌, map, take}
use Rattle.tx_tuple.specs.Tuples.{AreElements, element, packed}
use Rattle.tx_tuple.proofs.tuple.pack.Given as goal

abbrev pub invariant-loop-part : goal.invariant-loop-part
invariant-loop-part l = AreElements (map element (take l.part-index l.parts))
    × (l.bytes.items ≡ packed (map element (take l.part-index l.parts)))
