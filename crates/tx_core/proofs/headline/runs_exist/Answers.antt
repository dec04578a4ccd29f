use Rattle.tx_core.proofs.examples.CommitThenRead as two_phase
use Rattle.tx_core.proofs.examples.Resolver as resolver
use Rattle.tx_core.proofs.examples.Fallback as fall_back
use Rattle.tx_core.proofs.examples.PushThenPass as push
use Rattle.tx_core.proofs.examples.StatusAborts as status
use Rattle.tx_core.proofs.examples.MarkedRollback as overlap
use Rattle.tx_core.proofs.examples.Collection as collection
use Rattle.tx_core.proofs.examples.CollectedRollback as collected
use Rattle.tx_core.proofs.examples.Inserts as inserts
use Rattle.tx_core.proofs.examples.ScanMeetsLock as scans
use Rattle.tx_core.proofs.headline.runs_exist.Goals as goal

pub returns : goal.returns
returns c = record {
  two_phase = two_phase.commits_in_two_phases;
  late_prewrite = resolver.late_prewrite_commits;
  fall_back = fall_back.commits_after_fall_back;
  push = push.pushes_minimum;
  status = status.aborts_by_status;
  secondary = resolver.aborts_by_secondary;
  overlap = overlap.overlaps_rollback;
  commit_again = inserts.finds_commit;
  told_again = inserts.finds_by_status;
  collection = collected.drops_record;
  beside_collection = collection.reads_beside_collection;
  insert = inserts.commits_insert;
  refused_insert = inserts.refuses_insert;
  insert_again = inserts.inserts_over_delete;
  scan = scans.scan_meets;
}
