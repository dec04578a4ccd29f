use Rattle.std.proofs.Common.{◌≡◌, Contains}
use Rattle.tx_journal.specs.Known.{Known}
use Rattle.tx_network.specs.Networks.{IsDone}
use Rattle.tx_network.proofs.network.Network.settle.Given as goal

-- where what is left is done, all is
abbrev pub invariant-regions : goal.invariant-regions
invariant-regions g l = record {
  newest : l.newest ≡ l.fn.newest;
  rest : ((k : Known) → Contains l.regions.items k → IsDone l.fn.newest k) → (k : Known) → Contains l.fn.self.regions k
      → IsDone l.fn.newest k;
}

abbrev pub decreases-regions : goal.decreases-regions
decreases-regions g l = goal.left-regions g l
