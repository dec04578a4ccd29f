-- The ends of transactions after a lock was settled or rolled back, or a rollback was left: of one
-- that was decided before, or is by it.
use Rattle.std.proofs.Common.{◌≡◌, ◌≢◌, ℕ, ◌==◌, ◌⊎◌, inl, inr, cond, Option, Some, None, refl, sym, ap, subst, ◌∙◌}
use Rattle.tx_types.specs.declared.key.Key.{Key}
use Rattle.tx_types.specs.declared.mutation.Fate.TheVariants.{Committed, Aborted}
use Rattle.tx_machine.specs.Keys.{mutation_at}
use Rattle.tx_machine.specs.Machine.{Open, Done}
use Rattle.tx_plan.specs.Cells.{Lock, Cells, with_lock}
use Rattle.tx_plan.specs.Own.{OwnLock, OwnRollback, on_own_lock, leave_rollback, is_own, roll_back, lock_committed, commit_lock}
use Rattle.tx_core.specs.Histories.{set_of}
use Rattle.tx_core.proofs.Basics.{nat_same, cond_true, some_same}
use Rattle.tx_core.proofs.view.View.{View, Inv, IsPrimary, IsCommitted, IsAborted, FellBack, one_first, does_declared}
use Rattle.tx_core.proofs.changes.Keyed.{keyed, keyed_same, keyed_to, own_cases, at_cells}
use Rattle.tx_core.proofs.changes.HeartBeat.{lengthened, lengthening}
use Rattle.tx_core.proofs.changes.Settlements.{settling, kept_rollback}
use Rattle.tx_core.proofs.changes.Rollbacks.{rolled_with, rolling_back, leaving_rollback, resolving_back, own_rolled, kept_rolled, was_locked}
use Rattle.tx_core.proofs.changes.Commits.{deciding, CanDecide, inv_decide, was_decided, still_decided}
use Rattle.tx_core.proofs.changes.Aborts.{aborting, was_ended, still_ended}
use Rattle.tx_core.proofs.view.Ends.{Refused, FirstCleared, Ends, ends_keyed}
use Rattle.tx_plan.specs.cases.TxnHeartBeat.{with_ttl}

-- nothing but times to live
pub ends_lengthen : (w : View) (k : Key) (t ttl : ℕ) → Ends w → Ends (lengthening w k t ttl)
ends_lengthen w k t ttl ends =
    elim (own_cases (w.cells k) t (λ lock. with_lock (w.cells k) (Some (with_ttl lock ttl)))) [
      | inl x ↦ ends_keyed w k (lengthened (w.cells k) t ttl) ends
          (λ lock e. (
            x.0,
            x.1,
            ap (λ (l : Lock). l.start) (some_same (with_ttl x.0 ttl) lock (ap (λ (c : Cells). c.lock) (sym x.3) ∙ e)),
          ))
          (λ u end own. subst (λ (c : Cells). OwnRollback c.write u) (sym x.3) own)
      | inr x ↦ keyed_to w k (w.cells k) (lengthened (w.cells k) t ttl) Ends (sym x.1)
          (subst Ends (sym (keyed_same w k)) ends)
    ]

-- ---- of a transaction that was decided before

-- it is committed: its lock is settled
pub ends_settle : (w : View) (k : Key) (t c : ℕ) → Inv w → Ends w → IsCommitted w.decided t c → Ends (settling w k t c)
ends_settle w k t c i ends end =
    elim (own_cases (w.cells k) t (λ lock. lock_committed (w.cells k) c lock)) [
      | inl x ↦ keyed_to w k (lock_committed (w.cells k) c x.0) (commit_lock (w.cells k) t c) Ends (sym x.3)
          (ends_keyed w k (lock_committed (w.cells k) c x.0) ends (λ lock e. absurd (cc (e)))
          (kept_rollback w k x.0 c i x.1 (ap w.decided x.2 ∙ end)))
      | inr x ↦ keyed_to w k (w.cells k) (commit_lock (w.cells k) t c) Ends (sym x.1)
          (subst Ends (sym (keyed_same w k)) ends)
    ]

-- it is aborted: it is rolled back, with the lock
pub ends_roll_back : (w : View) (k : Key) (t : ℕ) → Ends w → Ends (rolling_back w k t)
ends_roll_back w k t ends =
    ends_keyed w k (roll_back (w.cells k) t) ends (λ lock e. (lock, (was_locked (w.cells k).lock t lock e).0, refl))
    (λ u end own. kept_rolled (w.cells k) t u (cond (is_own (w.cells k).lock t) None (w.cells k).lock) own)

-- or without
pub ends_leave_rollback : (w : View) (k : Key) (t : ℕ) → Ends w → Ends (leaving_rollback w k t)
ends_leave_rollback w k t ends =
    ends_keyed w k (leave_rollback (w.cells k) t) ends (λ lock e. (lock, e, refl))
    (λ u end own. kept_rolled (w.cells k) t u (w.cells k).lock own)

-- or where its lock stands
pub ends_resolve_back : (w : View) (k : Key) (t : ℕ) → Ends w → Ends (resolving_back w k t)
ends_resolve_back w k t ends =
    elim (own_cases (w.cells k) t (λ lock. roll_back (w.cells k) t)) [
      | inl x ↦ keyed_to w k (roll_back (w.cells k) t) (on_own_lock (w.cells k) t (λ lock. roll_back (w.cells k) t))
          Ends (sym x.3) (ends_roll_back w k t ends)
      | inr x ↦ keyed_to w k (w.cells k) (on_own_lock (w.cells k) t (λ lock. roll_back (w.cells k) t)) Ends (sym x.1)
          (subst Ends (sym (keyed_same w k)) ends)
    ]

-- ---- of a transaction that this commits: its primary is settled

-- it had a two-phase key and was open
pub ends_finish : (w : View) (k : Key) (t c : ℕ) (lock : Lock) → Inv w → Ends w → CanDecide w t c
    → FellBack w.accepted t → IsPrimary w.declared t k → OwnLock (w.cells k).lock t lock
    → Ends (settling (deciding w t c) k t c)
ends_finish w k t c lock i ends may fell first own =
    elim (own_cases (w.cells k) t (λ l. lock_committed (w.cells k) c l)) [
      | inl x ↦ keyed_to (deciding w t c) k (lock_committed (w.cells k) c x.0) (commit_lock (w.cells k) t c) Ends
          (sym x.3) (done x.0 x.1 x.2)
      | inr x ↦ absurd (x.0 lock own.stands own.own)
    ]
  where
    now : (deciding w t c).decided t ≡ Done (Committed c)
    now = cond_true (t == t) (Done (Committed c)) (w.decided t) (nat_same t)

    done : (old : Lock) → (w.cells k).lock ≡ Some old → old.start ≡ t
        → Ends (keyed (deciding w t c) k (lock_committed (w.cells k) c old))
    done old stands mine =
        record {
          all_async = λ u d most. still_decided w t c i may u (Committed d) (ends.all_async u d most);
          first_settled = λ u d q other end fell_u first_u at.
              elim (was_decided w t c i may u (Done (Committed d)) end) [
                | inl x ↦ gone q other u
                    (one_first w.declared t k q first (subst (λ n. IsPrimary w.declared n q) (sym x.0) first_u)) at
                | inr x ↦ ends.first_settled u d q other x fell_u first_u (stood q other u at)
              ];
          aborted = λ u end.
              elim (was_decided w t c i may u (Done Aborted) end) [
                | inl x ↦ absurd (cc (x.1))
                | inr x ↦ elim (ends.aborted u x) [
                  | inl y ↦ inl (record {
                    key = y.key;
                    within = y.within;
                    never = y.never;
                    way =
                        elim y.way [ inl back ↦ inl (kept y.key u end back) | inr low ↦ inr low ];
                  })
                  | inr y ↦ inr (record {
                    fell = y.fell;
                    key = y.key;
                    primary = y.primary;
                    was = y.was;
                    cleared =
                        λ other at. y.cleared other (stood y.key other u at);
                  })
                ]
              ];
        }
      where
        gone : (q : Key) (other : Lock) (u : ℕ) → k ≡ q
            → OwnLock ((keyed (deciding w t c) k (lock_committed (w.cells k) c old)).cells q).lock u other → ⊥
        gone q other u same at =
            at_cells (deciding w t c) k q (lock_committed (w.cells k) c old) (λ x cells. cells.lock ≡ Some other
            → ⊥) (λ e. (cc (e))) (λ apart e. apart same) at.stands

        stood : (q : Key) (other : Lock) (u : ℕ)
            → OwnLock ((keyed (deciding w t c) k (lock_committed (w.cells k) c old)).cells q).lock u other
            → OwnLock (w.cells q).lock u other
        stood q other u at = record {
          stands =
              at_cells (deciding w t c) k q (lock_committed (w.cells k) c old) (λ x cells. cells.lock ≡ Some other
              → (w.cells x).lock ≡ Some other) (λ e. absurd (cc (e))) (λ apart e. e) at.stands;
          own = at.own;
        }

        kept : (q : Key) (u : ℕ) → IsAborted (deciding w t c).decided u → OwnRollback (w.cells q).write u
            → OwnRollback ((keyed (deciding w t c) k (lock_committed (w.cells k) c old)).cells q).write u
        kept q u end = at_cells (deciding w t c) k q (lock_committed (w.cells k) c old)
            (λ x cells. OwnRollback (w.cells x).write u
            → OwnRollback cells.write u)
            (kept_rollback (deciding w t c) k old c (inv_decide w t c i may) stands (ap (deciding w t c).decided mine
            ∙ now) u end) (λ apart own. own)

-- ---- of a transaction that this aborts

-- other cells on one key, where it is aborted by what stands then
ends_aborted : (w : View) (k : Key) (t : ℕ) (new : Cells) → Inv w → Ends w → w.decided t ≡ Open → w.declared t ≢ None
    → ((lock : Lock) → new.lock ≡ Some lock → (w.cells k).lock ≡ Some lock)
    → ((u : ℕ) → OwnRollback (w.cells k).write u → OwnRollback new.write u)
    → Refused w.declared w.accepted w.collected (keyed w k new).cells t
    ⊎ FirstCleared w.declared w.accepted (keyed w k new).cells t → Ends (keyed (aborting w t) k new)
ends_aborted w k t new i ends o some stood stays now =
    record {
      all_async = λ u d most. still_ended w t i o some u (Committed d) (ends.all_async u d most);
      first_settled = λ u d q other end fell first at. elim (was_ended w t i o some u (Done (Committed d)) end)
          [ inl x ↦ absurd (cc (x.1)) | inr x ↦ kept.first_settled u d q other x fell first at ];
      aborted = λ u end.
          elim (was_ended w t i o some u (Done Aborted) end) [
            | inl x ↦ subst (λ n. Refused w.declared w.accepted w.collected (keyed w k new).cells n
                ⊎ FirstCleared w.declared w.accepted (keyed w k new).cells n) x.0 now
            | inr x ↦ kept.aborted u x
          ];
    }
  where
    kept : Ends (keyed w k new)
    kept = ends_keyed w k new ends (λ lock e. (lock, stood lock e, refl)) (λ u end own. stays u own)

-- its primary is rolled back, with the lock: some key is accepted two-phase
pub ends_abort_first : (w : View) (k : Key) (t : ℕ) (lock : Lock) → Inv w → Ends w → w.decided t ≡ Open
    → FellBack w.accepted t → IsPrimary w.declared t k → OwnLock (w.cells k).lock t lock
    → Ends (rolling_back (aborting w t) k t)
ends_abort_first w k t lock i ends o fell first own =
    ends_aborted w k t (roll_back (w.cells k) t) i ends o
    (does_declared w.declared t fell.key fell.by.lock.mutation (i.acceptances t fell.key fell.by fell.stands).does)
    (λ old e. (was_locked (w.cells k).lock t old e).0)
    (λ u back. kept_rolled (w.cells k) t u (cond (is_own (w.cells k).lock t) None (w.cells k).lock) back) (inr (record {
      fell = fell;
      key = k;
      primary = first;
      was = λ none. ((i.keys k).lock lock own.stands).accepts (ap (λ n. w.accepted n k) own.own ∙ none);
      cleared = λ old at. at_cells w k k (roll_back (w.cells k) t) (λ q cells. k ≡ q → cells.lock ≡ Some old
          → ⊥) (λ same e. (was_locked (w.cells k).lock t old e).1 at.own) (λ apart same e. apart same) refl at.stands;
    }))

-- a rollback is left on a key of its that was never accepted
pub refused_by : (w : View) (k : Key) (t : ℕ) (lock : Option Lock) → mutation_at (set_of (w.declared t)) k ≢ None
    → w.accepted t k ≡ None
    → Refused w.declared w.accepted w.collected (keyed w k (rolled_with (w.cells k) t lock)).cells t
refused_by w k t lock within never = record {
  key = k;
  within = within;
  never = never;
  way = inl (at_cells w k k (rolled_with (w.cells k) t lock) (λ q cells. k ≡ q
      → OwnRollback cells.write t) (λ same. own_rolled (w.cells k) t lock) (λ apart same. absurd (apart same)) refl);
}

-- that is, with the lock removed, or without
pub ends_abort_missing : (w : View) (k : Key) (t : ℕ) → Inv w → Ends w → w.decided t ≡ Open → w.declared t ≢ None
    → mutation_at (set_of (w.declared t)) k ≢ None → w.accepted t k ≡ None → Ends (rolling_back (aborting w t) k t)
ends_abort_missing w k t i ends o some within never =
    ends_aborted w k t (roll_back (w.cells k) t) i ends o some (λ old e. (was_locked (w.cells k).lock t old e).0)
    (λ u back. kept_rolled (w.cells k) t u (cond (is_own (w.cells k).lock t) None (w.cells k).lock) back)
    (inl (refused_by w k t (cond (is_own (w.cells k).lock t) None (w.cells k).lock) within never))

pub ends_abort_leaving : (w : View) (k : Key) (t : ℕ) → Inv w → Ends w → w.decided t ≡ Open → w.declared t ≢ None
    → mutation_at (set_of (w.declared t)) k ≢ None → w.accepted t k ≡ None → Ends (leaving_rollback (aborting w t) k t)
ends_abort_leaving w k t i ends o some within never =
    ends_aborted w k t (leave_rollback (w.cells k) t) i ends o some (λ old e. e)
    (λ u back. kept_rolled (w.cells k) t u (w.cells k).lock back)
    (inl (refused_by w k t (w.cells k).lock within never))
