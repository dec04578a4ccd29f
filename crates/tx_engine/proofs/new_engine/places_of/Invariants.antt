use Rattle.std.proofs.Common.{◌≡◌, ◌++◌, length}
use Rattle.tx_engine.specs.Openings.{frees}
use Rattle.tx_engine.proofs.new_engine.places_of.Given as goal

abbrev pub invariant-seats : goal.invariant-seats
invariant-seats g l = l.slots.items ++ frees l.seats.items ≡ frees l.fn.seats.items

abbrev pub decreases-seats : goal.decreases-seats
decreases-seats g l = length l.seats.items
