-- What a read may not overlook: a lock, a commit record, and that something was collected.
use Rattle.std.proofs.Common.{◌≡◌, ℕ, [], ◌∷◌, None, refl, arith}
use Rattle.tx_plan.specs.declared.answer.Answer.TheVariants as reply
use Rattle.tx_core.specs.declared.event.Event.TheVariants.{Drawn, Took}
use Rattle.tx_core.specs.Histories.{History, left}
use Rattle.tx_needed.specs.Needed.{IsNeeded}
use Rattle.tx_needed.specs.Forgets.{Forgets, CollectsAnywhere, IsGet, IsScan, IsRaiseSafe, on_locks, no_lock, on_writes, no_commit, no_safe}
use Rattle.tx_needed.proofs.Words.{a, x, asks, took, gets, scans, raises, collects}
use Rattle.tx_needed.proofs.Cells.{by_key, by_time}
use Rattle.tx_needed.proofs.Tables.{comes, reads_none, reads_nothing, scans_nothing, raises_safe, collects_all}
use Rattle.tx_needed.proofs.Comes.{nobody}
use Rattle.tx_needed.proofs.Needs.{asked, one_more, gets_none, scans_none}
use Rattle.tx_needed.proofs.histories.OneKey.{committed_3, committed_3_run, settled, settled_run}
use Rattle.tx_needed.proofs.histories.Collected.{deleted, deleted_run, collected, collected_run, finds_none, none_elsewhere}

-- ---- a lock, whose transaction is committed at 3

abbrev locked : History
locked = Drawn 2 3 ∷ committed_3

pub get_lock : IsNeeded (Forgets IsGet (on_locks no_lock))
get_lock =
    asked locked (gets a 3 []) reply.Nothing (committed_3_run, omega arith)
    (reads_nothing (tt, nobody _) refl (λ c. refl) (omega arith) (omega arith)) (gets_none locked a 3 [] 1 x refl refl)

pub scan_lock : IsNeeded (Forgets IsScan (on_locks no_lock))
scan_lock =
    asked locked (scans 3) (reply.Rows []) (committed_3_run, omega arith)
    (scans_nothing (tt, nobody _)
    (by_key (λ k. ((on_locks no_lock (left locked 0)).cells k).lock ≡ None) refl (λ k e. rw e refl))
    (λ v finds. (cc (finds.stands))) (λ k e q. rw e refl) (omega arith) (omega arith))
    (scans_none locked 3 1 x refl refl)

-- ---- its commit record

abbrev committed : History
committed = Drawn 2 3 ∷ settled

forgotten : (q : ℕ) → no_commit (((left committed 0).cells a).write q) ≡ None
forgotten = by_time (λ q. no_commit (((left committed 0).cells a).write q) ≡ None) 3 refl (λ q e. rw e refl)

pub get_commit : IsNeeded (Forgets IsGet (on_writes no_commit))
get_commit =
    asked committed (gets a 3 []) reply.Nothing (settled_run, omega arith)
    (reads_nothing (tt, nobody _) refl forgotten (omega arith) (omega arith)) (gets_none committed a 3 [] 1 x refl refl)

pub scan_commit : IsNeeded (Forgets IsScan (on_writes no_commit))
scan_commit =
    asked committed (scans 3) (reply.Rows []) (settled_run, omega arith)
    (scans_nothing (tt, nobody _)
    (by_key (λ k. ((on_writes no_commit (left committed 0)).cells k).lock ≡ None) refl (λ k e. rw e refl))
    (λ v finds. (let none = forgotten finds.at in let some = finds.stands in cc (none, some))) (λ k e q. rw e refl)
    (omega arith) (omega arith)) (scans_none committed 3 1 x refl refl)

-- ---- a collection at 6, which dropped the put at 3

pub get_safe : IsNeeded (Forgets IsGet no_safe)
get_safe =
    asked collected (gets a 3 []) reply.Nothing collected_run
    (reads_none (tt, nobody _) (λ lock blocks. (let some = blocks.stands in cc (some))) finds_none (omega arith)
    (omega arith)) (gets_none collected a 3 [] 1 x refl refl)

pub scan_safe : IsNeeded (Forgets IsScan no_safe)
scan_safe =
    asked collected (scans 3) (reply.Rows []) collected_run
    (scans_nothing (tt, nobody _) (by_key (λ k. ((left collected 0).cells k).lock ≡ None) refl (λ k e. rw e refl))
    finds_none none_elsewhere (omega arith) (omega arith)) (scans_none collected 3 1 x refl refl)

-- the safe point is lowered again
abbrev lowered : History
lowered = took (raises 0) reply.Raised collected

pub raise_safe : IsNeeded (Forgets IsRaiseSafe no_safe)
raise_safe =
    one_more collected (Took (asks collected (raises 0) reply.Raised))
    (Took (asks lowered (gets a 3 []) reply.Nothing)) collected_run
    (raises_safe (tt, tt) (omega arith) (omega arith))
    (comes (reads_none (nobody _) (λ lock blocks. (let some = blocks.stands in cc (some))) finds_none (omega arith)
    (omega arith))) (gets_none lowered a 3 [] 1 x refl refl)

-- the safe point was not raised
abbrev collected_at_6 : History
collected_at_6 = took (collects 6) (reply.Collected 2 0) deleted

pub collect_safe : IsNeeded CollectsAnywhere
collect_safe =
    one_more deleted (Took (asks deleted (collects 6) (reply.Collected 2 0)))
    (Took (asks collected_at_6 (gets a 3 []) reply.Nothing)) deleted_run
    (6, collects_all (tt, tt) refl (by_key (λ k. ((left deleted 0).cells k).lock ≡ None) refl (λ k e. rw e refl)))
    (comes (reads_none (nobody _) (λ lock blocks. (let some = blocks.stands in cc (some))) finds_none (omega arith)
    (omega arith))) (gets_none collected_at_6 a 3 [] 1 x refl refl)
