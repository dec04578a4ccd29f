-- A region answers a commit.
use Rattle.std.proofs.Common.{◌≡◌, ◌≢◌, ℕ, ◌<◌, ◌≤◌, ◌==◌, ◌&&◌, ◌++◌, ◌⊎◌, inl, inr, true, cond, List, ◌∷◌, None, refl, sym, ap, subst, ◌∙◌, arith}
use Rattle.std.proofs.lemmas.Bool.{cases_Bool, cases_lt, and_parts, eqb-true, eq-eqb}
use Rattle.tx_types.specs.declared.key.Key.{Key}
use Rattle.tx_types.specs.declared.mutation.Fate.TheVariants as fate
use Rattle.tx_machine.specs.declared.step.Step.TheVariants as step
use Rattle.tx_machine.specs.Machine.{Open, Done, table_of}
use Rattle.tx_plan.specs.declared.body.Commit.{Commit}
use Rattle.tx_plan.specs.declared.body.Body.TheVariants as body
use Rattle.tx_plan.specs.declared.answer.Answer.{Answer}
use Rattle.tx_plan.specs.declared.answer.Answer.TheVariants.{Committed, AlreadyRolledBack, CommitTsExpired, TxnLockNotFound, BelowSafePoint}
use Rattle.tx_plan.specs.Cells.{Lock, CommitRecord}
use Rattle.tx_plan.specs.Own.{OwnLock, OwnCommit, OthersCommit, lock_committed, commit_lock, is_own}
use Rattle.tx_plan.specs.cases.Commit.{AnswersCommit}
use Rattle.tx_core.specs.Histories.{History, declared, is_first, set_at, left}
use Rattle.tx_core.specs.Decisions.{Settles, NoEffect, accepted, first_decided, decided}
use Rattle.tx_core.specs.Worlds.{route}
use Rattle.tx_core.specs.Legal.{IsLegalDecision}
use Rattle.tx_core.specs.Shadow.{deciding, shadow}
use Rattle.tx_core.specs.Truth.{IsOpen}
use Rattle.tx_core.proofs.Basics.{nat_test, nat_same, cond_true, some_of}
use Rattle.tx_core.proofs.view.View.{FellBack, IsCommitted, first_declared, does_within, lock_ends}
use Rattle.tx_core.proofs.changes.Keyed.{own_cases}
use Rattle.tx_core.proofs.changes.Settlements.{settling}
use Rattle.tx_core.proofs.changes.Commits as decide
use Rattle.tx_core.proofs.view.Ends.{first_opens}
use Rattle.tx_core.proofs.changes.CellsEnds.{ends_settle, ends_finish}
use Rattle.tx_core.proofs.changes.Sounds.{sound_settle, sound_decide}
use Rattle.tx_core.proofs.view.Tables.{has_ended, still_open}
use Rattle.tx_core.proofs.view.HistoryView.{view, shown_in}
use Rattle.tx_core.proofs.requests.Good.{Good, Next, OnKey, took, cells_at, assemble, quiet, decided_same, true_end, true_commit, true_rollback, not_own}
use Rattle.tx_plan.specs.Answers.{leaves_on}

module _ (bounds : List Key) (h : History) (good : Good bounds h) (b : Commit) (l : ℕ) where
  on_key : (a : Answer) → OnKey b.key (body.Commit b) a b.start (λ c. leaves_on c (body.Commit b) a)
  on_key a = record {
    named = refl;
    does = λ r. refl;
    unread = λ before. refl;
    unseen = refl;
    unnoted =
        λ e before. refl;
    unchecked = λ e. refl;
  }

  -- it is decided so, or this decides
  abbrev May : Type 0
  May = (decided h b.start ≡ Done (fate.Committed b.commit)) ⊎ IsLegalDecision h b

  silent : (a x : Answer) → a ≡ x → Next bounds h (took (route bounds b.key) (body.Commit b) l x)
      → Next bounds h (took (route bounds b.key) (body.Commit b) l a)
  silent a x e next = subst (λ y. Next bounds h (took (route bounds b.key) (body.Commit b) l y)) (sym e) next

  -- ---- the lock is settled

  module _ (lock : Lock) (own : OwnLock (cells_at bounds h b.key).lock b.start lock) where
    settles : cond (is_own (cells_at bounds h b.key).lock b.start) (Settles b.key b.start b.commit) NoEffect
        ≡ Settles b.key b.start b.commit
    settles = ap (λ o. cond (is_own o b.start) (Settles b.key b.start b.commit) NoEffect) own.stands
        ∙ cond_true (lock.start == b.start) (Settles b.key b.start b.commit) NoEffect
        (eq-eqb lock.start b.start own.own)

    -- of a transaction that was decided so before
    follows : IsCommitted (decided h) b.start b.commit
        → Next bounds h (took (route bounds b.key) (body.Commit b) l (Committed b.commit))
    follows end =
        assemble bounds h b.key (body.Commit b) l (Committed b.commit) b.start
        (λ c. leaves_on c (body.Commit b) (Committed b.commit)) (on_key (Committed b.commit))
        (Settles b.key b.start b.commit)
        settles (decided h) (accepted h) (shown_in h) (commit_lock (cells_at bounds h b.key) b.start b.commit)
        (shadow h) same_fate
        (λ u q. refl)
        (λ u. refl)
        refl
        (ap (λ s. s ++ shadow h) (decided_same b.start (decided h b.start)))
        (sound_settle (shadow h) (view bounds h) b.key b.start b.commit good.sound end)
        (ends_settle (view bounds h) b.key b.start b.commit good.sound.inv good.ends end)
        (true_end bounds h good b.start (fate.Committed b.commit) end)
      where
        same_fate : (u : ℕ) → first_decided
            (cond ((b.start == u) && is_first (set_at h u) b.key) (Done (fate.Committed b.commit)) Open) (decided h u)
            ≡ decided h u
        same_fate u =
            elim (cases_Bool ((b.start == u) && is_first (set_at h u) b.key)) [
              | inl e ↦ (let was : decided h u ≡ Done (fate.Committed b.commit) =
                  subst (λ n. IsCommitted (decided h) n b.commit)
                  (eqb-true b.start u (and_parts (b.start == u) (is_first (set_at h u) b.key) e).0) end in
                  rw (e, was) refl)
              | inr e ↦ rw e refl
            ]

    -- of a transaction that this decides
    decides : FellBack (accepted h) b.start → is_first (set_at h b.start) b.key ≡ true
        → decide.CanDecide (view bounds h) b.start b.commit
        → Next bounds h (took (route bounds b.key) (body.Commit b) l (Committed b.commit))
    decides fell first may =
        let w = decide.deciding (view bounds h) b.start b.commit in
        let sound = sound_settle (step.Commit b.start b.commit
        ∷ shadow h) w b.key b.start b.commit
        (sound_decide (shadow h) (view bounds h) b.start b.commit good.sound may) now in
        assemble bounds h b.key (body.Commit b) l (Committed b.commit) b.start
        (λ c. leaves_on c (body.Commit b) (Committed b.commit)) (on_key (Committed b.commit))
        (Settles b.key b.start b.commit)
        settles w.decided (accepted h) (shown_in h) (commit_lock (cells_at bounds h b.key) b.start b.commit)
        (step.Commit b.start b.commit ∷ shadow h) new_fate
        (λ u q. refl)
        (λ u. refl)
        refl
        (ap (λ s. s ++ shadow h) (ap (λ s. deciding b.start s (w.decided b.start)) may.opened
        ∙ ap (deciding b.start Open) now))
        sound
        (ends_finish (view bounds h) b.key b.start b.commit lock good.sound.inv good.ends may fell first own)
        (has_ended (table_of (step.Commit b.start b.commit ∷ shadow h)) (settling w b.key b.start b.commit) b.start
        (fate.Committed b.commit) sound.inv sound.shows now)
      where
        now : cond (b.start == b.start) (Done (fate.Committed b.commit)) (decided h b.start)
            ≡ Done (fate.Committed b.commit)
        now = cond_true (b.start == b.start) (Done (fate.Committed b.commit)) (decided h b.start) (nat_same b.start)

        new_fate : (u : ℕ) → first_decided
            (cond ((b.start == u) && is_first (set_at h u) b.key) (Done (fate.Committed b.commit)) Open) (decided h u)
            ≡ cond (b.start == u) (Done (fate.Committed b.commit)) (decided h u)
        new_fate u =
            elim (nat_test b.start u) [
              | inl e ↦ rw (
                e.0,
                subst (λ n. is_first (set_at h n) b.key ≡ true) e.1 first,
                subst (λ n. decided h n ≡ Open) e.1 may.opened,
              ) refl
              | inr e ↦ rw e.0 refl
            ]

    -- the lock is settled by a commit that is allowed and not below its minimum
    done : May → (b.commit < lock.min → ⊥)
        → Next bounds h (took (route bounds b.key) (body.Commit b) l (Committed b.commit))
    done may high = elim may [ inl end ↦ follows end | inr new ↦ first_time new ]
      where
        first_time : IsLegalDecision h b
            → Next bounds h (took (route bounds b.key) (body.Commit b) l (Committed b.commit))
        first_time new =
            let first : is_first (set_at h b.start) b.key ≡ true = new.primary in
            let fell : FellBack (accepted h) b.start =
            record {
              key = new.two_phase.key;
              by = new.two_phase.by;
              stands = new.two_phase.stands;
              two_phase =
                  new.two_phase.two_phase;
            } in
            let o : decided h b.start ≡ Open =
            first_opens (view bounds h) b.key b.start lock good.ends fell first own new.complete in
            let low : lock.min ≤ b.commit =
            elim (cases_lt b.commit lock.min) [ inl lt ↦ absurd (high lt) | inr le ↦ le ] in
            decides fell first (decide.decide_drawn (view bounds h) b.start b.commit b.key lock good.sound.inv o
            new.complete new.drawn
            (λ k by e. new.after k by
            (does_within (declared h) b.start k by.lock.mutation (good.sound.inv.acceptances b.start k by e).does)
            e) first own low)

    -- its transaction is open where it is refused for its timestamp
    expired : May → b.commit < lock.min → IsOpen (table_of (shadow h)) b.start
    expired may low = elim may [ inl end ↦ absurd (settled end) | inr new ↦ opened new ]
      where
        settled : IsCommitted (decided h) b.start b.commit → ⊥
        settled end = omega (
          arith,
          low,
          lock_ends (view bounds h) b.key lock b.commit good.sound.inv own.stands
              (subst (λ t. IsCommitted (decided h) t b.commit) (sym own.own) end),
        )

        opened : IsLegalDecision h b → IsOpen (table_of (shadow h)) b.start
        opened new =
            let first : is_first (set_at h b.start) b.key ≡ true = new.primary in
            let fell : FellBack (accepted h) b.start =
            record {
              key = new.two_phase.key;
              by = new.two_phase.by;
              stands = new.two_phase.stands;
              two_phase =
                  new.two_phase.two_phase;
            } in
            let of = first_declared (declared h b.start) b.key first in
            still_open (table_of (shadow h)) (view bounds h) b.start of.0 good.sound.inv good.sound.shows of.1
            (first_opens (view bounds h) b.key b.start lock good.ends fell first own new.complete)

    -- no other's commit record stands where it commits: it lies above the start
    unmet : May → (rec : CommitRecord)
        → OthersCommit (cells_at bounds h b.key).write b.start b.commit rec → ⊥
    unmet may rec met = elim may [
      | inl end ↦ omega (arith, below, (good.sound.inv.commits b.start b.commit end).range.0)
      | inr new ↦ (let of = some_of (accepted h b.start b.key)
          (subst (λ t. accepted h t b.key ≢ None) own.own
          ((good.sound.inv.keys b.key).lock lock own.stands).accepts) in
          let is = good.sound.inv.acceptances b.start b.key of.0 of.1 in
          omega (
            arith,
            below,
            is.above,
            is.bounded,
            is.upto,
            new.after b.key of.0
                (does_within (declared h) b.start b.key of.0.lock.mutation is.does) of.1,
          ))
    ]
      where
        below : b.commit ≤ b.start
        below = omega (
          arith,
          own.own,
          ((good.sound.inv.keys b.key).alone lock own.stands).above rec.start b.commit rec.mutation
              ((good.sound.inv.keys b.key).records.committed b.commit rec met.stands)
              ((good.sound.inv.keys b.key).records.does b.commit rec met.stands)
              (λ same. met.other (same ∙ own.own)),
        )

  -- ---- the rows

  -- a commit that is told again
  again : (c : ℕ) → OwnCommit (cells_at bounds h b.key).write b.start c
      → ((lock : Lock) → OwnLock (cells_at bounds h b.key).lock b.start lock → ⊥)
      → Next bounds h (took (route bounds b.key) (body.Commit b) l (Committed c))
  again c own unlocked =
      quiet bounds h good b.key (body.Commit b) l (Committed c) b.start (λ x. leaves_on x (body.Commit b) (Committed c))
      (on_key (Committed c))
      (ap (λ y. cond y (Settles b.key b.start b.commit) NoEffect)
      (not_own (cells_at bounds h b.key).lock b.start
      (λ lock e mine. unlocked lock (record { stands = e; own = mine }))))
      (λ u n. refl)
      (elim (own_cases (cells_at bounds h b.key) b.start
      (λ lock. lock_committed (cells_at bounds h b.key) b.commit lock)) [
        | inl x ↦ absurd (unlocked x.0 (record { stands = x.1; own = x.2 }))
        | inr x ↦ x.1
      ])
      (true_commit bounds h good b.key b.start c own)

  pub next_commit : (a : Answer) → May
      → AnswersCommit (cells_at bounds h b.key) (left h (route bounds b.key)).collected b a
      → Next bounds h (took (route bounds b.key) (body.Commit b) l a)
  next_commit a may (inl x) =
      silent a (BelowSafePoint (left h (route bounds b.key)).collected) x.1
      (quiet bounds h good b.key (body.Commit b) l (BelowSafePoint (left h (route bounds b.key)).collected) b.start
      (λ c. leaves_on c (body.Commit b) (BelowSafePoint (left h (route bounds b.key)).collected))
      (on_key (BelowSafePoint (left h (route bounds b.key)).collected)) refl (λ u n. refl) refl tt)
  next_commit a may (inr (no0, inl (lock, own, inl x))) =
      silent a (CommitTsExpired lock.min) x.1
      (quiet bounds h good b.key (body.Commit b) l (CommitTsExpired lock.min) b.start
      (λ c. leaves_on c (body.Commit b) (CommitTsExpired lock.min)) (on_key (CommitTsExpired lock.min)) refl
      (λ u n. refl) refl
      (expired lock own may x.0))
  next_commit a may (inr (no0, inl (lock, own, inr (no1, inl (rec, x, e))))) =
      absurd (unmet lock own may rec x)
  next_commit a may (inr (no0, inl (lock, own, inr (no1, inr (no2, e))))) =
      silent a (Committed b.commit) e (done lock own may no1)
  next_commit a may (inr (no0, inr (no1, inl (c, own, e)))) = silent a (Committed c) e (again c own no1)
  next_commit a may (inr (no0, inr (no1, inr (no2, inl x)))) =
      silent a AlreadyRolledBack x.1
      (quiet bounds h good b.key (body.Commit b) l AlreadyRolledBack b.start
      (λ c. leaves_on c (body.Commit b) AlreadyRolledBack)
      (on_key AlreadyRolledBack) refl (λ u n. refl) refl (true_rollback bounds h good b.key b.start x.0))
  next_commit a may (inr (no0, inr (no1, inr (no2, inr (no3, e))))) =
      silent a TxnLockNotFound e
      (quiet bounds h good b.key (body.Commit b) l TxnLockNotFound b.start
      (λ c. leaves_on c (body.Commit b) TxnLockNotFound)
      (on_key TxnLockNotFound) refl (λ u n. refl) refl tt)
