use Rattle.std.proofs.Common.{◌≡◌, ◌-◌, length}
use Rattle.tx_types.specs.declared.key.Key.{Key}
use Rattle.tx_flat.specs.Numbered.{numbers_among}
use Rattle.tx_flat.specs.declared.ceilings.TheConstants.{SLOTS}
use Rattle.tx_flat.proofs.numbers.open.Given as goal

abbrev pub invariant-slots : goal.invariant-slots
invariant-slots l = (k : Key) → numbers_among l.numbers.items k ≡ numbers_among l.fn.numbers.items k

abbrev pub decreases-slots : goal.decreases-slots
decreases-slots l = SLOTS - length l.numbers.items
