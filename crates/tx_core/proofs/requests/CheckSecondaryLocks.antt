-- A region answers what stands of an async transaction on a key.
use Rattle.std.proofs.Common.{◌≡◌, ◌≢◌, ℕ, ◌<◌, inl, inr, List, None, refl, sym, ap, subst}
use Rattle.std.proofs.lemmas.Bool.{cases_lt}
use Rattle.tx_types.specs.declared.key.Key.{Key}
use Rattle.tx_machine.specs.Keys.{mutation_at}
use Rattle.tx_plan.specs.declared.body.CheckSecondaryLocks.{CheckSecondaryLocks}
use Rattle.tx_plan.specs.declared.body.Body.TheVariants as body
use Rattle.tx_plan.specs.declared.answer.Answer.{Answer}
use Rattle.tx_plan.specs.declared.answer.Answer.TheVariants.{Missing, Committed, Locked, BelowSafePoint}
use Rattle.tx_plan.specs.Cells.{Lock, info_of, Cells}
use Rattle.tx_plan.specs.Own.{OwnLock, OwnCommit, leave_rollback}
use Rattle.tx_plan.specs.cases.CheckSecondaryLocks.{AnswersCheckSecondaryLocks}
use Rattle.tx_core.specs.Histories.{History, declared, set_of, set_at, left}
use Rattle.tx_core.specs.Decisions.{accepted, decided}
use Rattle.tx_core.specs.Worlds.{route}
use Rattle.tx_core.proofs.view.View.{IsAborted, never_accepted}
use Rattle.tx_core.proofs.view.Ends.{missing_live}
use Rattle.tx_core.proofs.changes.CellsEnds.{ends_leave_rollback, ends_abort_leaving}
use Rattle.tx_core.proofs.changes.Sounds.{sound_leave_rollback}
use Rattle.tx_core.proofs.view.HistoryView.{view}
use Rattle.tx_core.proofs.requests.LeftRollback.{LeavesRollback, rolled}
use Rattle.tx_core.proofs.requests.Good.{Good, Next, OnKey, took, cells_at, quiet, true_commit}
use Rattle.tx_plan.specs.Answers.{leaves_on}

module _ (bounds : List Key) (h : History) (good : Good bounds h) (b : CheckSecondaryLocks) (l : ℕ) where
  on_key : (a : Answer) → OnKey b.key (body.CheckSecondaryLocks b) a b.start
      (λ c. leaves_on c (body.CheckSecondaryLocks b) a)
  on_key a = record {
    named = refl;
    does = λ r. refl;
    unread = λ before. refl;
    unseen = refl;
    unnoted =
        λ e before. refl;
    unchecked = λ e. refl;
  }

  silent : (a x : Answer) → a ≡ x → Next bounds h (took (route bounds b.key) (body.CheckSecondaryLocks b) l x)
      → Next bounds h (took (route bounds b.key) (body.CheckSecondaryLocks b) l a)
  silent a x e next = subst (λ y. Next bounds h (took (route bounds b.key) (body.CheckSecondaryLocks b) l y)) (sym e)
      next

  -- its rollback is left
  abbrev roll : Cells → Cells
  roll c = leave_rollback c b.start

  leaves : LeavesRollback bounds h b.key (body.CheckSecondaryLocks b) l Missing b.start roll
  leaves = record {
    does = λ c. leaves_on c (body.CheckSecondaryLocks b) Missing;
    on = on_key Missing;
    same = refl;
    leaves = refl;
    untold = λ u n. refl;
    sound = λ steps w. sound_leave_rollback steps w b.key b.start;
    ends = ends_leave_rollback (view bounds h) b.key b.start;
    tells = λ table ended. ended;
  }

  -- ---- what is allowed

  -- nothing of it stands there but perhaps its rollback: it was never accepted there where
  -- it is not aborted
  missing : mutation_at (set_at h b.start) b.key ≢ None → (b.start < (left h (route bounds b.key)).collected → ⊥)
      → ((lock : Lock) → OwnLock (cells_at bounds h b.key).lock b.start lock → ⊥)
      → ((c : ℕ) → OwnCommit (cells_at bounds h b.key).write b.start c → ⊥)
      → Next bounds h (took (route bounds b.key) (body.CheckSecondaryLocks b) l Missing)
  missing within fresh unlocked uncommitted =
      rolled bounds h good b.key (body.CheckSecondaryLocks b) l Missing b.start roll leaves some
      (λ c e. missing_live (view bounds h) b.key b.start c good.sound.inv within (never (λ gone. (cc (e, gone)))) e)
      (λ o. ends_abort_leaving (view bounds h) b.key b.start good.sound.inv good.ends o some within
      (never (λ gone. (cc (o, gone)))))
    where
      some : declared h b.start ≢ None
      some none = within (ap (λ o. mutation_at (set_of o) b.key) none)

      never : (IsAborted (decided h) b.start → ⊥) → accepted h b.start b.key ≡ None
      never live = never_accepted (view bounds h) b.key b.start good.sound.inv
          (elim (cases_lt b.start (left h (route bounds b.key)).collected) [ inl lt ↦ absurd (fresh lt) | inr le ↦ le ])
          unlocked uncommitted (λ own. live ((good.sound.inv.keys b.key).records.rolled b.start own))

  -- ---- the rows

  pub next_check_secondary : (a : Answer) → mutation_at (set_at h b.start) b.key ≢ None
      → AnswersCheckSecondaryLocks (cells_at bounds h b.key) (left h (route bounds b.key)).collected b a
      → Next bounds h (took (route bounds b.key) (body.CheckSecondaryLocks b) l a)
  next_check_secondary a may (inl x) =
      silent a (BelowSafePoint (left h (route bounds b.key)).collected) x.1
      (quiet bounds h good b.key (body.CheckSecondaryLocks b) l (BelowSafePoint (left h (route bounds b.key)).collected)
      b.start (λ c. leaves_on c (body.CheckSecondaryLocks b) (BelowSafePoint (left h (route bounds b.key)).collected))
      (on_key (BelowSafePoint (left h (route bounds b.key)).collected)) refl (λ u n. refl) refl tt)
  next_check_secondary a may (inr (no0, inl (lock, own, e))) =
      silent a (Locked (info_of b.key lock)) e
      (quiet bounds h good b.key (body.CheckSecondaryLocks b) l (Locked (info_of b.key lock)) b.start
      (λ c. leaves_on c (body.CheckSecondaryLocks b) (Locked (info_of b.key lock)))
      (on_key (Locked (info_of b.key lock))) refl
      (λ u n. refl) refl tt)
  next_check_secondary a may (inr (no0, inr (no1, inl (c, own, e)))) =
      silent a (Committed c) e
      (quiet bounds h good b.key (body.CheckSecondaryLocks b) l (Committed c) b.start
      (λ x. leaves_on x (body.CheckSecondaryLocks b) (Committed c)) (on_key (Committed c)) refl (λ u n. refl) refl
      (true_commit bounds h good b.key b.start c own))
  next_check_secondary a may (inr (no0, inr (no1, inr (no2, e)))) = silent a Missing e (missing may no0 no1 no2)
