use Rattle.std.proofs.Common.{◌≡◌}
use Rattle.tx_plan.specs.Collection.{past}
use Rattle.tx_plan.proofs.Collects.{CollectedTo}
use Rattle.tx_plan.proofs.key_records.collect_key.Given as goal

-- what was collected from the safe point down
abbrev pub invariant-records : goal.invariant-records
invariant-records g l = record {
  same : g.R.KeyRecords.write l.key ≡ g.R.KeyRecords.write l.fn.key;
  to : CollectedTo (g.R.KeyRecords.write l.fn.key) l.fn.safe (past l.below) l.followed l.kept l.records l.values;
}

abbrev pub decreases-records : goal.decreases-records
decreases-records g l = past l.below
