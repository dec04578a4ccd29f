use Rattle.std.proofs.Common.{◌≡◌, vec_len}
use Rattle.std.specs.Prelude.{All}
use Rattle.tx_cells.specs.Contents.{nothing_held}
use Rattle.tx_cells.proofs.fresh.make_families.Given as goal

abbrev pub invariant-loop-i : goal.invariant-loop-i
invariant-loop-i g l = (vec_len l.families ≡ l._i)
    × All (λ f. g.F.Holds.content f ≡ (λ k. nothing_held)) l.families.items
