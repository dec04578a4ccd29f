use Rattle.std.proofs.Common.{◌≡◌, ◌++◌, length, map}
use Rattle.tx_tuple.specs.Tuples.{AreElements, owned_element, packed}
use Rattle.tx_tuple.proofs.tuple.unpack.Given as goal

-- what was read, and what is left
abbrev pub invariant-loop-rest : goal.invariant-loop-rest
invariant-loop-rest l = AreElements (map owned_element l.parts.items)
    × (l.key ≡ packed (map owned_element l.parts.items) ++ l.rest)

abbrev pub decreases-loop-rest : goal.decreases-loop-rest
decreases-loop-rest l = length l.rest
