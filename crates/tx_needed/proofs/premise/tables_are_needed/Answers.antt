use Rattle.tx_needed.proofs.cases.Reads as reads
use Rattle.tx_needed.proofs.cases.Locks as locks
use Rattle.tx_needed.proofs.cases.Commits as commits
use Rattle.tx_needed.proofs.cases.Rollbacks as rollbacks
use Rattle.tx_needed.proofs.cases.Checks as checks
use Rattle.tx_needed.proofs.premise.tables_are_needed.Goals as goal

pub returns : goal.returns
returns c = record {
  get_lock = reads.get_lock;
  get_commit = reads.get_commit;
  get_safe = reads.get_safe;
  scan_lock = reads.scan_lock;
  scan_commit = reads.scan_commit;
  scan_safe = reads.scan_safe;
  prewrite_minimum = locks.minimum;
  prewrite_rollback = locks.rollback;
  prewrite_mark = locks.mark;
  prewrite_commit = locks.conflict;
  prewrite_safe = locks.safe;
  prewrite_value = locks.value;
  prewrite_lock = locks.lock;
  commit_minimum = commits.below_minimum;
  rollback_commit = rollbacks.committed;
  rollback_collected = rollbacks.collected;
  status_lock = checks.status_lock;
  status_async = checks.status_async;
  status_commit = checks.status_commit;
  status_collected = checks.status_collected;
  secondary_lock = checks.secondary_lock;
  secondary_commit = checks.secondary_commit;
  secondary_collected = checks.secondary_collected;
  raise_safe = reads.raise_safe;
  collect_safe = reads.collect_safe;
}
