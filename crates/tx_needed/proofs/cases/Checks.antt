-- What may be checked, and what a check may not overlook.
use Rattle.std.proofs.Common.{◌≡◌, ℕ, true, false, None, refl, arith}
use Rattle.tx_plan.specs.declared.answer.Answer.TheVariants as reply
use Rattle.tx_core.specs.Histories.{left}
use Rattle.tx_needed.specs.Needed.{IsNeeded, Requests}
use Rattle.tx_needed.specs.Rules.{ChecksAnyKey, ChecksForced, ChecksOutside}
use Rattle.tx_needed.specs.Forgets.{Forgets, IsCheckTxnStatus, IsCheckSecondaryLocks, on_locks, no_lock, no_mode, on_writes, no_commit, no_collection}
use Rattle.tx_needed.proofs.Words.{a, b, async_a, checks, checks_secondary}
use Rattle.tx_needed.proofs.Cells.{by_time}
use Rattle.tx_needed.proofs.Tables.{expires, finds_nothing, misses_nothing}
use Rattle.tx_needed.proofs.Comes.{of_its_keys, unforced}
use Rattle.tx_needed.proofs.Needs.{asked, aborted}
use Rattle.tx_needed.proofs.histories.OneKey.{committed_3, committed_3_run, settled, settled_run}
use Rattle.tx_needed.proofs.histories.BothKeys.{primary_3, primary_3_run}
use Rattle.tx_needed.proofs.histories.Collected.{locks_alone, dropped_alone, dropped_alone_run, none_of_alone}

-- ---- what may be checked

-- the expired lock on the other key of a transaction whose primary is committed at 3
pub other_key : IsNeeded (Requests ChecksAnyKey)
other_key =
    asked primary_3 (checks b 1 3 100 false) reply.RolledBack primary_3_run
    (expires _ (a, unforced refl refl) refl refl (omega arith) (omega arith) (λ both. (cc (both.0))) (omega arith))
    (aborted primary_3 (checks b 1 3 100 false) reply.RolledBack 1 3 refl (λ table true. true.0))

-- the expired lock of an async transaction that is committed at 3, by force
pub forced : IsNeeded (Requests ChecksForced)
forced =
    asked committed_3 (checks a 1 2 100 true) reply.RolledBack committed_3_run
    (expires _ refl refl refl (omega arith) (omega arith) (λ both. (cc (both.1))) (omega arith))
    (aborted committed_3 (checks a 1 2 100 true) reply.RolledBack 1 3 refl (λ table true. true.0))

-- a key that it did not declare
pub outside : IsNeeded (Requests ChecksOutside)
outside =
    asked committed_3 (checks_secondary b 1) reply.Missing committed_3_run
    (misses_nothing (a, λ e. (cc (e))) refl (λ c. refl) (omega arith))
    (aborted committed_3 (checks_secondary b 1) reply.Missing 1 3 refl (λ table true. true.0))

-- ---- a lock that stands, of a transaction that is committed at 3

pub status_async : IsNeeded (Forgets IsCheckTxnStatus (on_locks no_mode))
status_async =
    asked committed_3 (checks a 1 2 100 false) reply.RolledBack committed_3_run
    (expires _ (tt, unforced refl refl) refl refl (omega arith) (omega arith) (λ both. (cc (both.0))) (omega arith))
    (aborted committed_3 (checks a 1 2 100 false) reply.RolledBack 1 3 refl (λ table true. true.0))

pub status_lock : IsNeeded (Forgets IsCheckTxnStatus (on_locks no_lock))
status_lock =
    asked committed_3 (checks a 1 2 0 false) reply.RolledBack committed_3_run
    (finds_nothing (tt, unforced refl refl) refl (λ c. refl) (omega arith) (omega arith) refl)
    (aborted committed_3 (checks a 1 2 0 false) reply.RolledBack 1 3 refl (λ table true. true.0))

pub secondary_lock : IsNeeded (Forgets IsCheckSecondaryLocks (on_locks no_lock))
secondary_lock =
    asked committed_3 (checks_secondary a 1) reply.Missing committed_3_run
    (misses_nothing (tt, of_its_keys async_a refl refl (λ e. (cc (e)))) refl (λ c. refl) (omega arith))
    (aborted committed_3 (checks_secondary a 1) reply.Missing 1 3 refl (λ table true. true.0))

-- ---- its commit record, which stands

forgotten : (q : ℕ) → no_commit (((left settled 0).cells a).write q) ≡ None
forgotten = by_time (λ q. no_commit (((left settled 0).cells a).write q) ≡ None) 3 refl (λ q e. rw e refl)

pub status_commit : IsNeeded (Forgets IsCheckTxnStatus (on_writes no_commit))
status_commit =
    asked settled (checks a 1 2 0 false) reply.RolledBack settled_run
    (finds_nothing (tt, unforced refl refl) refl forgotten (omega arith) (omega arith) refl)
    (aborted settled (checks a 1 2 0 false) reply.RolledBack 1 3 refl (λ table true. true.0))

pub secondary_commit : IsNeeded (Forgets IsCheckSecondaryLocks (on_writes no_commit))
secondary_commit =
    asked settled (checks_secondary a 1) reply.Missing settled_run
    (misses_nothing (tt, of_its_keys async_a refl refl (λ e. (cc (e)))) refl forgotten (omega arith))
    (aborted settled (checks_secondary a 1) reply.Missing 1 3 refl (λ table true. true.0))

-- ---- that it may have been collected

pub status_collected : IsNeeded (Forgets IsCheckTxnStatus no_collection)
status_collected =
    asked dropped_alone (checks a 1 4 0 false) reply.RolledBack dropped_alone_run
    (finds_nothing (tt, unforced refl refl) refl none_of_alone (omega arith) (omega arith) refl)
    (aborted dropped_alone (checks a 1 4 0 false) reply.RolledBack 1 3 refl (λ table true. true.0))

pub secondary_collected : IsNeeded (Forgets IsCheckSecondaryLocks no_collection)
secondary_collected =
    asked dropped_alone (checks_secondary a 1) reply.Missing dropped_alone_run
    (misses_nothing (tt, of_its_keys locks_alone refl refl (λ e. (cc (e)))) refl none_of_alone (omega arith))
    (aborted dropped_alone (checks_secondary a 1) reply.Missing 1 3 refl (λ table true. true.0))
