use Rattle.tx_needed.proofs.cases.Bypasses as bypasses
use Rattle.tx_needed.proofs.cases.Prewrites as prewrites
use Rattle.tx_needed.proofs.cases.Commits as commits
use Rattle.tx_needed.proofs.cases.Rollbacks as rollbacks
use Rattle.tx_needed.proofs.cases.Checks as checks
use Rattle.tx_needed.proofs.premise.requests_are_needed.Goals as goal

pub returns : goal.returns
returns c = record {
  read_committed_above = bypasses.committed_above;
  read_shown_above = bypasses.shown_above;
  read_shown_told = bypasses.untold;
  read_shown_own = bypasses.shown_own;
  prewrite_declared = prewrites.undeclared;
  prewrite_key = prewrites.other_key;
  prewrite_mutation = prewrites.other_mutation;
  prewrite_mode = prewrites.other_mode;
  commit_primary = commits.other_key;
  commit_accepted = commits.early;
  commit_two_phase = commits.no_two_phase;
  commit_after = commits.drawn_before;
  commit_drawn = commits.undrawn;
  commit_decided = commits.other_timestamp;
  rollback_declared = rollbacks.undeclared;
  rollback_primary = rollbacks.of_other_key;
  rollback_two_phase = rollbacks.of_async;
  status_primary = checks.other_key;
  status_forced = checks.forced;
  secondary_declared = rollbacks.unchecked;
  secondary_key = checks.outside;
  resolve = rollbacks.resolved;
}
