use Rattle.tx_needed.proofs.cases.Leaves as leaves
use Rattle.tx_needed.proofs.premise.leavings_are_needed.Goals as goal

pub returns : goal.returns
returns c = record {
  record_takes_mark = leaves.takes_mark;
  rollback_gives_mark = leaves.gives_mark;
  collection_keeps_put = leaves.keeps_put;
  get_raises_read = leaves.gets_count;
  insert_raises_read = leaves.checks_count;
}
