-- A region answers a rollback.
use Rattle.std.proofs.Common.{◌≡◌, ◌≢◌, ℕ, ◌<◌, inl, inr, true, List, None, refl, sym, ap, subst, ◌∙◌}
use Rattle.std.proofs.lemmas.Bool.{cases_lt}
use Rattle.tx_types.specs.declared.key.Key.{Key}
use Rattle.tx_types.specs.declared.mutation.Mode.TheVariants.{TwoPhase}
use Rattle.tx_plan.specs.declared.body.BatchRollback.{BatchRollback}
use Rattle.tx_plan.specs.declared.body.Body.TheVariants as body
use Rattle.tx_plan.specs.declared.answer.Answer.{Answer}
use Rattle.tx_plan.specs.declared.answer.Answer.TheVariants.{RolledBack, AlreadyCommitted, BelowSafePoint}
use Rattle.tx_plan.specs.Cells.{Lock, Cells}
use Rattle.tx_plan.specs.Own.{OwnLock, OwnCommit, roll_back}
use Rattle.tx_plan.specs.cases.BatchRollback.{AnswersBatchRollback}
use Rattle.tx_core.specs.Histories.{History, declared, is_first, set_of, left}
use Rattle.tx_core.specs.Decisions.{accepted, decided}
use Rattle.tx_core.specs.Allowed.{AllowsBatchRollback}
use Rattle.tx_core.specs.Worlds.{route}
use Rattle.tx_core.proofs.view.View.{IsPrimary, IsAborted, first_within, does_within, never_accepted}
use Rattle.tx_core.proofs.view.Ends.{fell_of_declared, missing_live}
use Rattle.tx_core.proofs.changes.CellsEnds.{ends_roll_back, ends_abort_first, ends_abort_missing}
use Rattle.tx_core.proofs.changes.Sounds.{sound_roll_back}
use Rattle.tx_core.proofs.view.HistoryView.{view}
use Rattle.tx_core.proofs.requests.LeftRollback.{LeavesRollback, follows, rolled}
use Rattle.tx_core.proofs.requests.Good.{Good, Next, OnKey, took, cells_at, quiet, true_commit}
use Rattle.tx_plan.specs.Answers.{leaves_on}

module _ (bounds : List Key) (h : History) (good : Good bounds h) (b : BatchRollback) (l : ℕ) where
  on_key : (a : Answer) → OnKey b.key (body.BatchRollback b) a b.start (λ c. leaves_on c (body.BatchRollback b) a)
  on_key a = record {
    named = refl;
    does = λ r. refl;
    unread = λ before. refl;
    unseen = refl;
    unnoted =
        λ e before. refl;
    unchecked = λ e. refl;
  }

  silent : (a x : Answer) → a ≡ x → Next bounds h (took (route bounds b.key) (body.BatchRollback b) l x)
      → Next bounds h (took (route bounds b.key) (body.BatchRollback b) l a)
  silent a x e next = subst (λ y. Next bounds h (took (route bounds b.key) (body.BatchRollback b) l y)) (sym e) next

  -- its rollback is left, and its lock is gone
  abbrev roll : Cells → Cells
  roll c = roll_back c b.start

  leaves : LeavesRollback bounds h b.key (body.BatchRollback b) l RolledBack b.start roll
  leaves = record {
    does = λ c. leaves_on c (body.BatchRollback b) RolledBack;
    on = on_key RolledBack;
    same = refl;
    leaves = refl;
    untold = λ u n. refl;
    sound = λ steps w. sound_roll_back steps w b.key b.start;
    ends = ends_roll_back (view bounds h) b.key b.start;
    tells = λ table ended. ended;
  }

  follow : IsAborted (decided h) b.start → Next bounds h (took (route bounds b.key) (body.BatchRollback b) l RolledBack)
  follow = follows bounds h good b.key (body.BatchRollback b) l RolledBack b.start roll leaves

  -- ---- what is allowed

  -- its transaction is declared, and its key is the primary where it is not aborted
  module _ (may : AllowsBatchRollback h b) where
    some : declared h b.start ≢ None
    some none = cc (none, may.stands)

    first : is_first may.of.changes b.key ≡ true → IsPrimary (declared h) b.start b.key
    first e = ap (λ o. is_first (set_of o) b.key) may.stands ∙ e

    -- its lock stands there: it is not committed, since it would lock its primary no more
    locked : (lock : Lock) → OwnLock (cells_at bounds h b.key).lock b.start lock
        → Next bounds h (took (route bounds b.key) (body.BatchRollback b) l RolledBack)
    locked lock own = elim may.may [ inl gone ↦ follow gone | inr two ↦ of_primary two.0 (first two.1) ]
      where
        of_primary : may.of.mode ≡ TwoPhase → IsPrimary (declared h) b.start b.key
            → Next bounds h (took (route bounds b.key) (body.BatchRollback b) l RolledBack)
        of_primary mode is =
            let fell = fell_of_declared (view bounds h) b.key lock b.start may.of good.sound.inv own may.stands mode in
            rolled bounds h good b.key (body.BatchRollback b) l RolledBack b.start roll leaves some
            (λ c e. good.ends.first_settled b.start c b.key lock e fell is own)
            (λ o. ends_abort_first (view bounds h) b.key b.start lock good.sound.inv good.ends o fell is own)

    -- nothing of it stands there but perhaps its rollback: it was never accepted there where
    -- it is not aborted
    missing : (b.start < (left h (route bounds b.key)).collected → ⊥)
        → ((lock : Lock) → OwnLock (cells_at bounds h b.key).lock b.start lock → ⊥)
        → ((c : ℕ) → OwnCommit (cells_at bounds h b.key).write b.start c → ⊥)
        → Next bounds h (took (route bounds b.key) (body.BatchRollback b) l RolledBack)
    missing fresh unlocked uncommitted = elim may.may [ inl gone ↦ follow gone | inr two ↦ of_primary (first two.1) ]
      where
        never : (IsAborted (decided h) b.start → ⊥) → accepted h b.start b.key ≡ None
        never live = never_accepted (view bounds h) b.key b.start good.sound.inv
            (elim (cases_lt b.start (left h (route bounds b.key)).collected) [
              | inl lt ↦ absurd (fresh lt)
              | inr le ↦ le
            ]) unlocked uncommitted (λ own. live ((good.sound.inv.keys b.key).records.rolled b.start own))

        of_primary : IsPrimary (declared h) b.start b.key
            → Next bounds h (took (route bounds b.key) (body.BatchRollback b) l RolledBack)
        of_primary is =
            let does = first_within (declared h) b.start b.key is in
            let within = does_within (declared h) b.start b.key does.0 does.1 in
            rolled bounds h good b.key (body.BatchRollback b) l RolledBack b.start roll leaves some
            (λ c e. missing_live (view bounds h) b.key b.start c good.sound.inv within (never (λ gone. (cc (e, gone))))
            e)
            (λ o. ends_abort_missing (view bounds h) b.key b.start good.sound.inv good.ends o some within
            (never (λ gone. (cc (o, gone)))))

  -- ---- the rows

  pub next_rollback : (a : Answer) → AllowsBatchRollback h b
      → AnswersBatchRollback (cells_at bounds h b.key) (left h (route bounds b.key)).collected b a
      → Next bounds h (took (route bounds b.key) (body.BatchRollback b) l a)
  next_rollback a may (inl x) =
      silent a (BelowSafePoint (left h (route bounds b.key)).collected) x.1
      (quiet bounds h good b.key (body.BatchRollback b) l (BelowSafePoint (left h (route bounds b.key)).collected)
      b.start (λ c. leaves_on c (body.BatchRollback b) (BelowSafePoint (left h (route bounds b.key)).collected))
      (on_key (BelowSafePoint (left h (route bounds b.key)).collected)) refl (λ u n. refl) refl tt)
  next_rollback a may (inr (no0, inl (lock, own, e))) = silent a RolledBack e (locked may lock own)
  next_rollback a may (inr (no0, inr (no1, inl (c, own, e)))) =
      silent a (AlreadyCommitted c) e
      (quiet bounds h good b.key (body.BatchRollback b) l (AlreadyCommitted c) b.start
      (λ x. leaves_on x (body.BatchRollback b) (AlreadyCommitted c)) (on_key (AlreadyCommitted c)) refl
      (λ u n. refl) refl
      (true_commit bounds h good b.key b.start c own))
  next_rollback a may (inr (no0, inr (no1, inr (no2, e)))) = silent a RolledBack e (missing may no0 no1 no2)
