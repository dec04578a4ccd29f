-- A region answers what has become of a transaction, on its primary.
use Rattle.std.proofs.Common.{◌≡◌, ◌≢◌, ℕ, ◌+◌, ◌<◌, ◌≤◌, ◌++◌, inl, inr, false, List, None, refl, sym, ap, subst, arith}
use Rattle.std.proofs.lemmas.Bool.{cases_Bool, cases_lt}
use Rattle.tx_types.specs.declared.key.Key.{Key}
use Rattle.tx_types.specs.declared.mutation.Mode.{Mode}
use Rattle.tx_types.specs.declared.mutation.Mode.TheVariants.{TwoPhase, Async}
use Rattle.tx_types.specs.declared.mutation.Fate.TheVariants as fate
use Rattle.tx_machine.specs.Keys.{mutation_at}
use Rattle.tx_machine.specs.Machine.{table_of}
use Rattle.tx_plan.specs.declared.body.CheckTxnStatus.{CheckTxnStatus}
use Rattle.tx_plan.specs.declared.body.Body.TheVariants as body
use Rattle.tx_plan.specs.declared.answer.Answer.{Answer}
use Rattle.tx_plan.specs.declared.answer.Answer.TheVariants.{Committed, RolledBack, Locked, BelowSafePoint, FutureTimestamp, TxnNotFound}
use Rattle.tx_plan.specs.Cells.{Lock, info_of, Cells}
use Rattle.tx_plan.specs.Own.{OwnLock, OwnCommit, OwnRollback, roll_back}
use Rattle.tx_plan.specs.cases.CheckTxnStatus.{AnswersCheckTxnStatus, ChecksLock, with_minimum}
use Rattle.tx_core.specs.Histories.{History, declared, set_of, left}
use Rattle.tx_core.specs.Decisions.{NoEffect, accepted, decided}
use Rattle.tx_core.specs.Allowed.{AllowsCheckTxnStatus}
use Rattle.tx_core.specs.Worlds.{route}
use Rattle.tx_core.specs.Shadow.{shadow}
use Rattle.tx_core.specs.Truth.{HasEnded}
use Rattle.tx_core.proofs.view.View.{FellBack, IsPrimary, first_within, does_within, never_accepted, first_declared}
use Rattle.tx_core.proofs.changes.Pushes.{pushed, pushing, push_same, ends_push}
use Rattle.tx_core.proofs.view.Ends.{Ends, fell_of_lock, missing_live}
use Rattle.tx_core.proofs.changes.CellsEnds.{ends_roll_back, ends_abort_first, ends_abort_missing}
use Rattle.tx_core.proofs.changes.Sounds.{sound_roll_back, sound_push}
use Rattle.tx_core.proofs.view.Tables.{Sound, ended_decided}
use Rattle.tx_core.proofs.view.HistoryView.{view}
use Rattle.tx_core.proofs.requests.LeftRollback.{LeavesRollback, follows, rolled}
use Rattle.tx_core.proofs.requests.Good.{Good, Next, OnKey, took, cells_at, assemble, quiet, decided_same, true_commit}
use Rattle.tx_plan.specs.Answers.{leaves_on}

module _ (bounds : List Key) (h : History) (good : Good bounds h) (b : CheckTxnStatus) (l : ℕ) where
  on_key : (a : Answer) → OnKey b.key (body.CheckTxnStatus b) a b.start (λ c. leaves_on c (body.CheckTxnStatus b) a)
  on_key a = record {
    named = refl;
    does = λ r. refl;
    unread = λ before. refl;
    unseen = refl;
    unnoted =
        λ e before. refl;
    unchecked = λ e. refl;
  }

  silent : (a x : Answer) → a ≡ x → Next bounds h (took (route bounds b.key) (body.CheckTxnStatus b) l x)
      → Next bounds h (took (route bounds b.key) (body.CheckTxnStatus b) l a)
  silent a x e next = subst (λ y. Next bounds h (took (route bounds b.key) (body.CheckTxnStatus b) l y)) (sym e) next

  -- its rollback is left, and its lock is gone
  abbrev roll : Cells → Cells
  roll c = roll_back c b.start

  leaves : LeavesRollback bounds h b.key (body.CheckTxnStatus b) l RolledBack b.start roll
  leaves = record {
    does = λ c. leaves_on c (body.CheckTxnStatus b) RolledBack;
    on = on_key RolledBack;
    same = refl;
    leaves = refl;
    untold = λ u n. refl;
    sound = λ steps w. sound_roll_back steps w b.key b.start;
    ends = ends_roll_back (view bounds h) b.key b.start;
    tells = λ table ended. ended;
  }

  -- ---- the lock is told, with its minimum or one that it is pushed to

  tells : (lock told : Lock) → (own : OwnLock (cells_at bounds h b.key).lock b.start lock)
      → Sound (shadow h) (pushing (view bounds h) b.key b.start told.min)
      → Ends (pushing (view bounds h) b.key b.start told.min)
      → Next bounds h (took (route bounds b.key) (body.CheckTxnStatus b) l (Locked (info_of b.key told)))
  tells lock told own sound ends =
      let v = pushing (view bounds h) b.key b.start told.min in
      assemble bounds h b.key (body.CheckTxnStatus b) l (Locked (info_of b.key told)) b.start
      (λ c. leaves_on c (body.CheckTxnStatus b) (Locked (info_of b.key told))) (on_key (Locked (info_of b.key told)))
      NoEffect refl (decided h) (accepted h) v.shown (pushed (cells_at bounds h b.key) b.start told.min) (shadow h)
      (λ u. refl)
      (λ u q. refl)
      (λ u. refl)
      refl
      (ap (λ s. s ++ shadow h) (decided_same b.start (decided h b.start)))
      sound
      ends
      tt

  -- ---- what is allowed

  module _ (may : AllowsCheckTxnStatus h b) where
    some : declared h b.start ≢ None
    some none = cc (none, (first_declared (declared h b.start) b.key may.primary).1)

    first : IsPrimary (declared h) b.start b.key
    first = may.primary

    -- its lock stands there
    module _ (lock : Lock) (own : OwnLock (cells_at bounds h b.key).lock b.start lock) where
      -- it is told as it is
      stays : Next bounds h (took (route bounds b.key) (body.CheckTxnStatus b) l (Locked (info_of b.key lock)))
      stays =
          let same : pushing (view bounds h) b.key b.start lock.min ≡ view bounds h =
          push_same (view bounds h) b.key b.start lock.min lock good.sound.inv own first refl in
          tells lock lock own (subst (Sound (shadow h)) (sym same) good.sound) (subst Ends (sym same) good.ends)

      -- where it is not an async one that is not forced, some key is two-phase
      fell : ((lock.mode ≡ Async) × (b.force_sync_commit ≡ false) → ⊥) → FellBack (accepted h) b.start
      fell other = go lock.mode refl
        where
          go : (mode : Mode) → lock.mode ≡ mode → FellBack (accepted h) b.start
          go TwoPhase e = fell_of_lock (view bounds h) b.key lock b.start good.sound.inv own e
          go Async e =
              elim (cases_Bool b.force_sync_commit) [
                | inl forced ↦ (let x = may.forced forced in
                    record { key = x.key; by = x.by; stands = x.stands; two_phase = x.two_phase })
                | inr free ↦ absurd (other (e, free))
              ]

      -- it is rolled back
      locked : FellBack (accepted h) b.start
          → Next bounds h (took (route bounds b.key) (body.CheckTxnStatus b) l RolledBack)
      locked some_two =
          rolled bounds h good b.key (body.CheckTxnStatus b) l RolledBack b.start roll leaves some
          (λ c e. good.ends.first_settled b.start c b.key lock e some_two first own)
          (λ o. ends_abort_first (view bounds h) b.key b.start lock good.sound.inv good.ends o some_two first own)

      -- it is pushed
      pushes : FellBack (accepted h) b.start → lock.min ≤ b.caller + 1
          → Next bounds h (took (route bounds b.key) (body.CheckTxnStatus b) l
          (Locked (info_of b.key (with_minimum lock (b.caller + 1)))))
      pushes some_two more =
          tells lock (with_minimum lock (b.caller + 1)) own
          (sound_push (shadow h) (view bounds h) b.key b.start (b.caller + 1) lock good.sound own first more some_two
          (λ c end. good.ends.first_settled b.start c b.key lock end some_two first own))
          (ends_push (view bounds h) b.key b.start (b.caller + 1) lock good.sound.inv own first good.ends)

      checks : (a : Answer) → ChecksLock b lock a
          → Next bounds h (took (route bounds b.key) (body.CheckTxnStatus b) l a)
      checks a (inl x) = silent a (Locked (info_of b.key lock)) x.1 stays
      checks a (inr (no0, inl x)) = silent a RolledBack x.1 (locked (fell no0))
      checks a (inr (no0, inr (no1, inl x))) =
          silent a (Locked (info_of b.key (with_minimum lock (b.caller + 1)))) x.1
          (pushes (fell no0) (omega (arith, x.0)))
      checks a (inr (no0, inr (no1, inr (no2, e)))) = silent a (Locked (info_of b.key lock)) e stays

    -- nothing of it stands there: it was never accepted there
    module _ (fresh : b.start < (left h (route bounds b.key)).collected → ⊥)
        (unlocked : (lock : Lock) → OwnLock (cells_at bounds h b.key).lock b.start lock → ⊥)
        (uncommitted : (c : ℕ) → OwnCommit (cells_at bounds h b.key).write b.start c → ⊥)
        (unrolled : OwnRollback (cells_at bounds h b.key).write b.start → ⊥) where
      within : mutation_at (set_of (declared h b.start)) b.key ≢ None
      within =
          let does = first_within (declared h) b.start b.key first in
          does_within (declared h) b.start b.key does.0 does.1

      never : accepted h b.start b.key ≡ None
      never = never_accepted (view bounds h) b.key b.start good.sound.inv
          (elim (cases_lt b.start (left h (route bounds b.key)).collected) [
            | inl lt ↦ absurd (fresh lt)
            | inr le ↦ le
          ]) unlocked uncommitted unrolled

      missing : Next bounds h (took (route bounds b.key) (body.CheckTxnStatus b) l RolledBack)
      missing =
          rolled bounds h good b.key (body.CheckTxnStatus b) l RolledBack b.start roll leaves some
          (λ c e. missing_live (view bounds h) b.key b.start c good.sound.inv within never e)
          (λ o. ends_abort_missing (view bounds h) b.key b.start good.sound.inv good.ends o some within never)

      -- so it is not committed
      live : (c : ℕ) → HasEnded (table_of (shadow h)) b.start (fate.Committed c) → ⊥
      live c ended =
          missing_live (view bounds h) b.key b.start c good.sound.inv within never
          (ended_decided (table_of (shadow h)) (view bounds h) b.start (fate.Committed c) good.sound.shows ended)

  -- ---- the rows

  pub next_check_status : (a : Answer) → AllowsCheckTxnStatus h b
      → AnswersCheckTxnStatus (cells_at bounds h b.key) (left h (route bounds b.key)).collected l b a
      → Next bounds h (took (route bounds b.key) (body.CheckTxnStatus b) l a)
  next_check_status a may (inl x) =
      silent a (BelowSafePoint (left h (route bounds b.key)).collected) x.1
      (quiet bounds h good b.key (body.CheckTxnStatus b) l (BelowSafePoint (left h (route bounds b.key)).collected)
      b.start (λ c. leaves_on c (body.CheckTxnStatus b) (BelowSafePoint (left h (route bounds b.key)).collected))
      (on_key (BelowSafePoint (left h (route bounds b.key)).collected)) refl (λ u n. refl) refl tt)
  next_check_status a may (inr (no0, inl x)) =
      silent a (FutureTimestamp l) x.1
      (quiet bounds h good b.key (body.CheckTxnStatus b) l (FutureTimestamp l) b.start
      (λ c. leaves_on c (body.CheckTxnStatus b) (FutureTimestamp l)) (on_key (FutureTimestamp l)) refl
      (λ u n. refl) refl tt)
  next_check_status a may (inr (no0, inr (no1, inl (lock, own, x)))) = checks may lock own a x
  next_check_status a may (inr (no0, inr (no1, inr (no2, inl (c, own, e))))) =
      silent a (Committed c) e
      (quiet bounds h good b.key (body.CheckTxnStatus b) l (Committed c) b.start
      (λ x. leaves_on x (body.CheckTxnStatus b) (Committed c)) (on_key (Committed c)) refl (λ u n. refl) refl
      (true_commit bounds h good b.key b.start c own))
  next_check_status a may (inr (no0, inr (no1, inr (no2, inr (no3, inl x))))) =
      silent a RolledBack x.1
      (follows bounds h good b.key (body.CheckTxnStatus b) l RolledBack b.start roll leaves
      ((good.sound.inv.keys b.key).records.rolled b.start x.0))
  next_check_status a may (inr (no0, inr (no1, inr (no2, inr (no3, inr (no4, inl x)))))) =
      silent a RolledBack x.1 (missing may no0 no2 no3 no4)
  next_check_status a may (inr (no0, inr (no1, inr (no2, inr (no3, inr (no4, inr (no5, e))))))) =
      silent a TxnNotFound e
      (quiet bounds h good b.key (body.CheckTxnStatus b) l TxnNotFound b.start
      (λ c. leaves_on c (body.CheckTxnStatus b) TxnNotFound) (on_key TxnNotFound) refl (λ u n. refl) refl
      (live may no0 no2 no3 no4))
