use Rattle.std.proofs.Common.{◌≡◌, ◌^◌, ◌-◌}
use Rattle.std.specs.BTreeMap as tree
use Rattle.tx_spelling.specs.Spelt.{version_cmp}
use Rattle.tx_flat.proofs.OutdatedValues.{Climb}
use Rattle.tx_flat.proofs.drop_below.is_outdated.Given as goal

abbrev pub invariant-records : goal.invariant-records
invariant-records l = record {
  start : l.start ≡ l.fn.version.1;
  key : l.last.0 ≡ l.fn.version.0;
  climb : Climb (λ c. tree.get version_cmp l.fn.writes (l.fn.version.0, c)) l.fn.version.1 l.last.1 l.committed;
}

abbrev pub decreases-records : goal.decreases-records
decreases-records l = 2 ^ 64 - l.last.1
