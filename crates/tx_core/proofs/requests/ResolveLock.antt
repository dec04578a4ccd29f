-- A region answers that a lock is to be resolved.
use Rattle.std.proofs.Common.{◌≡◌, ℕ, ◌++◌, inl, inr, List, refl, sym, ap, subst, ◌∙◌, arith}
use Rattle.tx_types.specs.declared.key.Key.{Key}
use Rattle.tx_types.specs.declared.mutation.Fate.{Fate}
use Rattle.tx_types.specs.declared.mutation.Fate.TheVariants as fate
use Rattle.tx_machine.specs.Machine.{Done, table_of}
use Rattle.tx_plan.specs.declared.body.ResolveLock.{ResolveLock}
use Rattle.tx_plan.specs.declared.body.Body.TheVariants as body
use Rattle.tx_plan.specs.declared.answer.Answer.{Answer}
use Rattle.tx_plan.specs.declared.answer.Answer.TheVariants.{Resolved, BelowSafePoint}
use Rattle.tx_plan.specs.Cells.{Lock}
use Rattle.tx_plan.specs.Own.{OwnLock, on_own_lock, roll_back, lock_committed, commit_lock}
use Rattle.tx_plan.specs.cases.Commit.{CommitsLock}
use Rattle.tx_plan.specs.cases.ResolveLock.{ResolvesLock, AnswersResolveLock, resolve}
use Rattle.tx_core.specs.Histories.{History, left}
use Rattle.tx_core.specs.Decisions.{NoEffect, accepted, decided}
use Rattle.tx_core.specs.Worlds.{route}
use Rattle.tx_core.specs.Shadow.{shadow}
use Rattle.tx_core.specs.Truth.{HasEnded}
use Rattle.tx_core.proofs.view.View.{IsCommitted, IsAborted, lock_ends}
use Rattle.tx_core.proofs.changes.Keyed.{own_cases}
use Rattle.tx_core.proofs.changes.CellsEnds.{ends_settle, ends_resolve_back}
use Rattle.tx_core.proofs.changes.Sounds.{sound_settle, sound_resolve_back}
use Rattle.tx_core.proofs.view.HistoryView.{view, shown_in}
use Rattle.tx_core.proofs.requests.Good.{Good, Next, OnKey, took, cells_at, assemble, quiet, decided_same, true_end}
use Rattle.tx_plan.specs.Answers.{leaves_on}

module _ (bounds : List Key) (h : History) (good : Good bounds h) (b : ResolveLock) (l : ℕ) where
  on_key : (a : Answer) → OnKey b.key (body.ResolveLock b) a b.start (λ c. leaves_on c (body.ResolveLock b) a)
  on_key a = record {
    named = refl;
    does = λ r. refl;
    unread = λ before. refl;
    unseen = refl;
    unnoted =
        λ e before. refl;
    unchecked = λ e. refl;
  }

  silent : (a x : Answer) → a ≡ x → Next bounds h (took (route bounds b.key) (body.ResolveLock b) l x)
      → Next bounds h (took (route bounds b.key) (body.ResolveLock b) l a)
  silent a x e next = subst (λ y. Next bounds h (took (route bounds b.key) (body.ResolveLock b) l y)) (sym e) next

  -- ---- its lock stands

  module _ (lock : Lock) (own : OwnLock (cells_at bounds h b.key).lock b.start lock) where
    -- it is rolled back
    rolls : b.fate ≡ fate.Aborted → IsAborted (decided h) b.start
        → Next bounds h (took (route bounds b.key) (body.ResolveLock b) l Resolved)
    rolls p gone =
        assemble bounds h b.key (body.ResolveLock b) l Resolved b.start (λ x. leaves_on x (body.ResolveLock b) Resolved)
        (on_key Resolved) NoEffect refl (decided h) (accepted h) (shown_in h)
        (on_own_lock (cells_at bounds h b.key) b.start (λ x. roll_back (cells_at bounds h b.key) b.start)) (shadow h)
        (λ u. refl)
        (λ u q. refl)
        (λ u. refl)
        (ap (resolve (cells_at bounds h b.key) b.start) p)
        (ap (λ s. s ++ shadow h) (decided_same b.start (decided h b.start)))
        (sound_resolve_back (shadow h) (view bounds h) b.key b.start good.sound gone)
        (ends_resolve_back (view bounds h) b.key b.start good.ends)
        (subst (HasEnded (table_of (shadow h)) b.start) (sym p) (true_end bounds h good b.start fate.Aborted gone))

    -- it is settled
    settles : (c : ℕ) → b.fate ≡ fate.Committed c → IsCommitted (decided h) b.start c
        → Next bounds h (took (route bounds b.key) (body.ResolveLock b) l Resolved)
    settles c p end =
        assemble bounds h b.key (body.ResolveLock b) l Resolved b.start (λ x. leaves_on x (body.ResolveLock b) Resolved)
        (on_key Resolved) NoEffect refl (decided h) (accepted h)
        (shown_in h) (commit_lock (cells_at bounds h b.key) b.start c) (shadow h)
        (λ u. refl)
        (λ u q. refl)
        (λ u. refl)
        (ap (resolve (cells_at bounds h b.key) b.start) p)
        (ap (λ s. s ++ shadow h) (decided_same b.start (decided h b.start)))
        (sound_settle (shadow h) (view bounds h) b.key b.start c good.sound end)
        (ends_settle (view bounds h) b.key b.start c good.sound.inv good.ends end)
        (subst (HasEnded (table_of (shadow h)) b.start) (sym p) (true_end bounds h good b.start (fate.Committed c) end))

    -- the refusals of a commit do not come: it lies at or above the lock's minimum, and another's
    -- commit at or below the start
    by_commit : (c : ℕ) (a : Answer) → b.fate ≡ fate.Committed c → IsCommitted (decided h) b.start c
        → CommitsLock (cells_at bounds h b.key).write b.start c lock Resolved a
        → Next bounds h (took (route bounds b.key) (body.ResolveLock b) l a)
    by_commit c a p end (inl x) =
        absurd (omega (
          arith,
          x.0,
          lock_ends (view bounds h) b.key lock c good.sound.inv own.stands
              (subst (λ t. IsCommitted (decided h) t c) (sym own.own) end),
        ))
    by_commit c a p end (inr (no0, inl (rec, x, e))) =
        absurd (omega (
          arith,
          own.own,
          (good.sound.inv.commits b.start c end).range.0,
          ((good.sound.inv.keys b.key).alone lock own.stands).above rec.start c rec.mutation
              ((good.sound.inv.keys b.key).records.committed c rec x.stands)
              ((good.sound.inv.keys b.key).records.does c rec x.stands)
              (λ same. x.other (same ∙ own.own)),
        ))
    by_commit c a p end (inr (no0, inr (no1, e))) = silent a Resolved e (settles c p end)

    -- by what is decided
    by_fate : (e : Fate) (a : Answer) → b.fate ≡ e → decided h b.start ≡ Done e
        → ResolvesLock (cells_at bounds h b.key).write b.start lock e a
        → Next bounds h (took (route bounds b.key) (body.ResolveLock b) l a)
    by_fate fate.Aborted a p end answers = silent a Resolved answers (rolls p end)
    by_fate (fate.Committed c) a p end answers = by_commit c a p end answers

  -- ---- there is none

  nothing : (e : Fate) → ((lock : Lock) → OwnLock (cells_at bounds h b.key).lock b.start lock → ⊥)
      → resolve (cells_at bounds h b.key) b.start e ≡ cells_at bounds h b.key
  nothing fate.Aborted unlocked =
      elim (own_cases (cells_at bounds h b.key) b.start (λ lock. roll_back (cells_at bounds h b.key) b.start)) [
        | inl x ↦ absurd (unlocked x.0 (record { stands = x.1; own = x.2 }))
        | inr x ↦ x.1
      ]
  nothing (fate.Committed c) unlocked =
      elim (own_cases (cells_at bounds h b.key) b.start (λ lock. lock_committed (cells_at bounds h b.key) c lock)) [
        | inl x ↦ absurd (unlocked x.0 (record { stands = x.1; own = x.2 }))
        | inr x ↦ x.1
      ]

  -- ---- the rows

  pub next_resolve : (a : Answer) → decided h b.start ≡ Done b.fate
      → AnswersResolveLock (cells_at bounds h b.key) (left h (route bounds b.key)).collected b a
      → Next bounds h (took (route bounds b.key) (body.ResolveLock b) l a)
  next_resolve a may (inl x) =
      silent a (BelowSafePoint (left h (route bounds b.key)).collected) x.1
      (quiet bounds h good b.key (body.ResolveLock b) l (BelowSafePoint (left h (route bounds b.key)).collected) b.start
      (λ c. leaves_on c (body.ResolveLock b) (BelowSafePoint (left h (route bounds b.key)).collected))
      (on_key (BelowSafePoint (left h (route bounds b.key)).collected)) refl (λ u n. refl) refl tt)
  next_resolve a may (inr (no0, inl (lock, own, answers))) = by_fate lock own b.fate a refl may answers
  next_resolve a may (inr (no0, inr (no1, e))) =
      silent a Resolved e (quiet bounds h good b.key (body.ResolveLock b) l Resolved b.start
      (λ x. leaves_on x (body.ResolveLock b) Resolved) (on_key Resolved)
      refl
      (λ u n. refl)
      (nothing b.fate no1)
      (true_end bounds h good b.start b.fate may))
