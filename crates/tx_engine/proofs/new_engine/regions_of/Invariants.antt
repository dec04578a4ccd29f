use Rattle.std.proofs.Common.{◌≡◌, ◌+◌, length}
use Rattle.std.specs.Prelude.{All}
use Rattle.tx_cells.specs.Contents.{nothing_held}
use Rattle.tx_engine.specs.Openings.{AreDealt}
use Rattle.tx_engine.proofs.new_engine.regions_of.Given as goal

-- the regions so far have the first seats
abbrev pub invariant-families : goal.invariant-families
invariant-families g l = record {
  made : length l.regions.items + length l.families.items ≡ length l.fn.families.items;
  taken : AreDealt 0 l.regions.items;
  left : AreDealt (length l.regions.items) l.seats.items;
  count : length l.seats.items + length l.regions.items ≡ length l.fn.seats.items;
  empty : All (λ f. g.F.Holds.content f ≡ (λ k. nothing_held)) l.families.items;
}

abbrev pub decreases-families : goal.decreases-families
decreases-families g l = goal.left-families g l
