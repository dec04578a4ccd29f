use Rattle.std.proofs.Common.{◌≡◌, ◌≤◌, length, vec_len, vec_capacity}
use Rattle.tx_region.specs.KeyFronts.{TellsUpto}
use Rattle.tx_region.proofs.routes.fronts.Given as goal

abbrev pub invariant-loop-index : goal.invariant-loop-index
invariant-loop-index l = record {
  made : vec_len l.fronts ≡ l.index;
  room : length l.bounds ≤ vec_capacity l.fronts;
  tells : TellsUpto l.index l.bounds l.fronts.items;
}
