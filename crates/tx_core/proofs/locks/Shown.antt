-- What is shown of the minimum of a lock on its primary rises, and what answers tell of
-- locks was shown.
use Rattle.std.proofs.Common.{◌≡◌, ◌≢◌, ℕ, ◌+◌, ◌≤◌, ◌==◌, ◌&&◌, inl, inr, Bool, true, false, cond, List, [], ◌∷◌, Some, None, refl, sym, ap, subst, ◌∙◌, arith}
use Rattle.std.specs.Prelude.{Contains}
use Rattle.std.proofs.lemmas.Bool.{cases_Bool, cases_lt, and_parts, eqb-true, eq-eqb}
use Rattle.tx_types.specs.declared.key.Key.{Key}
use Rattle.tx_types.specs.declared.lock.LockInfo.{LockInfo}
use Rattle.tx_types.specs.declared.mutation.Mode.TheVariants.{Async}
use Rattle.tx_plan.specs.declared.body.Body.{Body}
use Rattle.tx_plan.specs.declared.body.Body.TheVariants as body
use Rattle.tx_plan.specs.declared.body.Prewrite.{Prewrite}
use Rattle.tx_plan.specs.declared.body.CheckTxnStatus.{CheckTxnStatus}
use Rattle.tx_plan.specs.declared.answer.Answer.{Answer}
use Rattle.tx_plan.specs.declared.answer.Answer.TheVariants.{Prewritten, Committed, RolledBack, Locked}
use Rattle.tx_plan.specs.Cells.{Lock, info_of}
use Rattle.tx_plan.specs.Own.{OwnLock, is_own}
use Rattle.tx_plan.specs.Answers.{Answers}
use Rattle.tx_plan.specs.Tables.{Case}
use Rattle.tx_plan.specs.cases.Prewrite.{AnswersPrewrite, IsWithin, MayPromise, lock_of, named_minimum}
use Rattle.tx_plan.specs.cases.CheckTxnStatus.{AnswersCheckTxnStatus, ChecksLock, with_minimum}
use Rattle.tx_core.specs.declared.event.Declaration.{Declaration}
use Rattle.tx_core.specs.declared.event.Taken.{Taken}
use Rattle.tx_core.specs.declared.event.Event.{Event}
use Rattle.tx_core.specs.declared.event.Event.TheVariants.{Drawn, Began, Declared, Answered, Stopped, Took}
use Rattle.tx_core.specs.Histories.{History, last, declared, set_at, is_first, left}
use Rattle.tx_core.specs.Decisions.{Acceptance, Puts, NoEffect, effect, effect_in, infos_in, accepted}
use Rattle.tx_core.specs.Laws.{WasToldOf}
use Rattle.tx_core.specs.Allowed.{AllowsCheckTxnStatus}
use Rattle.tx_core.specs.Worlds.{route, Holds}
use Rattle.tx_core.specs.Legal.{IsLegalRequest, IsLegallyTaken, IsLegal}
use Rattle.tx_core.proofs.Basics.{nat_test, cond_true}
use Rattle.tx_core.proofs.view.View.{never_accepted, first_declared}
use Rattle.tx_core.proofs.view.HistoryView.{shown_put, shown_told, shown_in, view}
use Rattle.tx_core.proofs.seats.Beginnings.{begins_all}
use Rattle.tx_core.proofs.seats.Stays.{accepted_on}
use Rattle.tx_core.proofs.requests.Good.{Good, took, cells_at}
pub use Rattle.tx_core.proofs.locks.Told.{ToldShown, told_first}
use Rattle.tx_core.proofs.locks.Told.{AllShown, IsPromised, promised_on, IsPrewrite, IsShown, IsStatusCheck, collect_tells, commit_tells, contains_one, get_tells, heart_beat_tells, locks_tell, no_put, nothing, prewrite_tells, raise_tells, resolve_tells, rollback_tells, scan_tells, secondary_tells, shown_stays, stays_routed, told_stays}

module _ (bounds : List Key) (h : History) (good : Good bounds h) (before : ToldShown bounds h) where
  -- ---- what is shown rises

  abbrev Rises : ℕ → Body → ℕ → Answer → Type 0
  Rises n x l a = (t : ℕ) → shown_in h t ≤ shown_in (Took (took n x l a) ∷ h) t

  -- where no lock is put and no status checked, it stays
  rises_quiet : (n : ℕ) (x : Body) (l : ℕ) (a : Answer) → (IsPrewrite x → ⊥) → (IsStatusCheck x → ⊥) → Rises n x l a
  rises_quiet n x l a no_prewrite no_check t =
      omega (
        arith,
        told_stays x a t (shown_put (set_at h t) (effect_in h (took n x l a)) t (shown_in h t)) no_check,
        shown_stays (set_at h t) (effect_in h (took n x l a)) t (shown_in h t)
            (no_put (left h n).cells x a no_prewrite),
      )

  -- a lock is put on a key of which the transaction was never accepted: on its primary nothing
  -- bounds h good before was shown yet
  module _ (b : Prewrite) (l : ℕ) where
    abbrev at : ℕ
    at = route bounds b.key

    rises_still : (a : Answer) → effect_in h (took at (body.Prewrite b) l a) ≡ NoEffect → Rises at (body.Prewrite b) l a
    rises_still a none t =
        (let same : shown_in (Took (took at (body.Prewrite b) l a) ∷ h) t ≡ shown_in h t =
        ap (λ e. shown_put (set_at h t) e t (shown_in h t)) none in omega (arith, same))

    rises_put : (a : Answer) (lock : Lock) → lock.start ≡ b.start
        → effect_in h (took at (body.Prewrite b) l a)
        ≡ cond (is_own (cells_at bounds h b.key).lock b.start) NoEffect (Puts b.key lock)
        → accepted h b.start b.key ≡ None → Rises at (body.Prewrite b) l a
    rises_put a lock of is never t =
        let same : shown_in (Took (took at (body.Prewrite b) l a) ∷ h) t
        ≡ shown_put (set_at h t) (cond (is_own (cells_at bounds h b.key).lock b.start) NoEffect (Puts b.key lock)) t
        (shown_in h t) = ap (λ e. shown_put (set_at h t) e t (shown_in h t)) is in
        omega (arith, same, go (is_own (cells_at bounds h b.key).lock b.start))
      where
        go : (own : Bool) → shown_in h t ≤ shown_put (set_at h t) (cond own NoEffect (Puts b.key lock)) t (shown_in h t)
        go true = omega arith
        go false =
            elim (cases_Bool ((lock.start == t) && is_first (set_at h t) b.key)) [
              | inl e ↦ (let both = and_parts (lock.start == t) (is_first (set_at h t) b.key) e in
                  let start : b.start ≡ t = sym of ∙ eqb-true lock.start t both.0 in
                  let zero_shown : shown_in h t ≡ 0 =
                  good.sound.inv.shown.none t b.key both.1 (subst (λ u. accepted h u b.key ≡ None) start never) in
                  omega (arith, zero_shown))
              | inr e ↦ rw e (omega arith)
            ]

    rises_prewrite : (a : Answer)
        → AnswersPrewrite (cells_at bounds h b.key) (left h at).safe l (MayPromise (left h at).max_read (last h) b) b a
        → Rises at (body.Prewrite b) l a
    rises_prewrite a (inl x) = rises_still a (ap (effect (left h at).cells (body.Prewrite b)) x.1)
    rises_prewrite a (inr (no0, inl x)) = rises_still a (ap (effect (left h at).cells (body.Prewrite b)) x.1)
    rises_prewrite a (inr (no0, inr (no1, inl (lock, own, e)))) =
        rises_still a (ap (effect (left h at).cells (body.Prewrite b)) e
        ∙ ap (λ o. cond (is_own o b.start) NoEffect (Puts b.key (lock_of b (named_minimum lock)))) own.stands
        ∙ cond_true (lock.start == b.start) NoEffect (Puts b.key (lock_of b (named_minimum lock)))
        (eq-eqb lock.start b.start own.own))
    rises_prewrite a (inr (no0, inr (no1, inr (no2, inl x)))) =
        rises_still a (ap (effect (left h at).cells (body.Prewrite b)) x.1)
    rises_prewrite a (inr (no0, inr (no1, inr (no2, inr (no3, inl (c, own, e)))))) =
        rises_still a (ap (effect (left h at).cells (body.Prewrite b)) e)
    rises_prewrite a (inr (no0, inr (no1, inr (no2, inr (no3, inr (no4, inl (lock, stands, e))))))) =
        rises_still a (ap (effect (left h at).cells (body.Prewrite b)) e)
    rises_prewrite a (inr (
      no0,
      inr (no1, inr (no2, inr (no3, inr (no4, inr (no5, inl (some, (start, c, newest, e))))))),
    )) =
        rises_still a (ap (effect (left h at).cells (body.Prewrite b)) e)
    rises_prewrite a (inr (no0, inr (no1, inr (no2, inr (no3, inr (no4, inr (no5, inr (no6, inl x)))))))) =
        rises_still a (ap (effect (left h at).cells (body.Prewrite b)) x.1)
    rises_prewrite a (inr (no0, inr (no1, inr (no2, inr (no3, inr (no4, inr (no5, inr (no6, inr (no7, rest))))))))) =
        last_rows rest
      where
        never : accepted h b.start b.key ≡ None
        never = never_accepted (view bounds h) b.key b.start good.sound.inv
            (elim (cases_lt b.start (left h at).safe) [
              | inl lt ↦ absurd (no0 lt)
              | inr le ↦ omega (arith, le, good.sound.inv.marks.low b.key)
            ]) no2 no4 no3

        puts : (m : ℕ) → a ≡ Prewritten m → Rises at (body.Prewrite b) l a
        puts m e = rises_put a (lock_of b m) refl (ap (effect (left h at).cells (body.Prewrite b)) e) never

        last_rows : Case (b.mode ≡ Async) ((m : ℕ) × MayPromise (left h at).max_read (last h) b m
            × Case (IsWithin b.max_commit m) (a ≡ Prewritten m) (a ≡ Prewritten 0)) (a ≡ Prewritten 0)
            → Rises at (body.Prewrite b) l a
        last_rows (inl (mode, (m, promise, inl x))) = puts m x.1
        last_rows (inl (mode, (m, promise, inr x))) = puts 0 x.1
        last_rows (inr x) = puts 0 x.1

  -- ---- a status is checked

  -- what an answer that a region gives must do: what is shown rises, and what is told of
  -- locks is shown then
  record Shows (n : ℕ) (x : Body) (l : ℕ) (a : Answer) : Type 0 where
    rises : Rises n x l a
    tells : (info : LockInfo) → Contains (infos_in a) info → IsShown h (shown_in (Took (took n x l a) ∷ h)) info

  -- what was shown before is shown then
  shows_by : (n : ℕ) (x : Body) (l : ℕ) (a : Answer) → Rises n x l a → AllShown bounds h good before a → Shows n x l a
  shows_by n x l a rises tells =
      record {
        rises = rises;
        tells =
            λ info c. (let was = tells info c in (
              was.0,
              promised_on (accepted h) (accepted h) (shown_in h)
                  (shown_in (Took (took n x l a) ∷ h)) info.start info.min (rises info.start) (λ k by e. e) was.1,
            ));
      }

  module _ (b : CheckTxnStatus) (l : ℕ) (may : AllowsCheckTxnStatus h b) where
    abbrev there : ℕ
    there = route bounds b.key

    silent : (a x : Answer) → a ≡ x → Shows there (body.CheckTxnStatus b) l x → Shows there (body.CheckTxnStatus b) l a
    silent a x e shows = subst (Shows there (body.CheckTxnStatus b) l) (sym e) shows

    -- no lock is told of
    unlocked : (a x : Answer) → a ≡ x → infos_in x ≡ [] → ((t n : ℕ) → shown_told (body.CheckTxnStatus b) x t n ≡ n)
        → Shows there (body.CheckTxnStatus b) l a
    unlocked a x e none same =
        silent a x e (shows_by there (body.CheckTxnStatus b) l x
        (λ t. omega (
          arith,
          same t
              (shown_put (set_at h t) (effect_in h (took there (body.CheckTxnStatus b) l x)) t (shown_in h t)),
          shown_stays (set_at h t) (effect_in h (took there (body.CheckTxnStatus b) l x)) t (shown_in h t)
              (no_put (left h there).cells (body.CheckTxnStatus b) x (λ y. y)),
        )) (nothing bounds h good before x none))

    -- its own lock is told of, with at least the minimum that it has
    locked : (a : Answer) (lock told : Lock) → OwnLock (cells_at bounds h b.key).lock b.start lock
        → told.start ≡ lock.start → lock.min ≤ told.min → a ≡ Locked (info_of b.key told)
        → Shows there (body.CheckTxnStatus b) l a
    locked a lock told own start more e =
        silent a (Locked (info_of b.key told)) e (record {
          rises = λ t. elim (nat_test b.start t) [
            | inl x ↦ rw x.0 (omega (arith, was t x.1, more))
            | inr x ↦ rw x.0 (omega arith)
          ];
          tells = λ info c. subst
              (IsShown h (shown_in (Took (took there (body.CheckTxnStatus b) l (Locked (info_of b.key told))) ∷ h)))
              (contains_one (info_of b.key told) info c) (
                some,
                inl (let now = cond_true (b.start == told.start) told.min (shown_in h told.start)
                    (eq-eqb b.start told.start (sym (start ∙ own.own))) in omega (arith, now)),
              );
        })
      where
        some : declared h told.start ≢ None
        some none = cc (
          (first_declared (declared h b.start) b.key may.primary).1,
          subst (λ u. declared h u ≡ None)
              (start ∙ own.own) none,
        )

        was : (t : ℕ) → b.start ≡ t → shown_in h t ≡ lock.min
        was t same = (let primary : is_first (set_at h lock.start) b.key ≡ true =
            ap (λ u. is_first (set_at h u) b.key) own.own ∙ may.primary in
            ap (shown_in h) (sym (own.own ∙ same))
            ∙ sym (((good.sound.inv.keys b.key).lock lock own.stands).shows primary))

    checks : (a : Answer) (lock : Lock) → OwnLock (cells_at bounds h b.key).lock b.start lock → ChecksLock b lock a
        → Shows there (body.CheckTxnStatus b) l a
    checks a lock own (inl x) = locked a lock lock own refl (omega arith) x.1
    checks a lock own (inr (no0, inl x)) = unlocked a RolledBack x.1 refl (λ t n. refl)
    checks a lock own (inr (no0, inr (no1, inl x))) =
        locked a lock (with_minimum lock (b.caller + 1)) own refl (omega (arith, x.0)) x.1
    checks a lock own (inr (no0, inr (no1, inr (no2, e)))) = locked a lock lock own refl (omega arith) e

    shows_status : (a : Answer) → AnswersCheckTxnStatus (cells_at bounds h b.key) (left h there).collected l b a
        → Shows there (body.CheckTxnStatus b) l a
    shows_status a (inl x) = unlocked a _ x.1 refl (λ t n. refl)
    shows_status a (inr (no0, inl x)) = unlocked a _ x.1 refl (λ t n. refl)
    shows_status a (inr (no0, inr (no1, inl (lock, own, x)))) = checks a lock own x
    shows_status a (inr (no0, inr (no1, inr (no2, inl (c, own, e))))) = unlocked a (Committed c) e refl (λ t n. refl)
    shows_status a (inr (no0, inr (no1, inr (no2, inr (no3, inl x))))) = unlocked a RolledBack x.1 refl (λ t n. refl)
    shows_status a (inr (no0, inr (no1, inr (no2, inr (no3, inr (no4, inl x)))))) =
        unlocked a RolledBack x.1 refl (λ t n. refl)
    shows_status a (inr (no0, inr (no1, inr (no2, inr (no3, inr (no4, inr (no5, e))))))) =
        unlocked a _ e refl (λ t n. refl)

  -- ---- every request

  shows : (n : ℕ) (x : Body) (l : ℕ) (a : Answer) → IsLegalRequest h x → Holds bounds n x
      → Answers (left h n) l (last h) x a
      → Shows n x l a
  shows n (body.Get b) l a legal holds answers =
      shows_by n (body.Get b) l a (rises_quiet n (body.Get b) l a (λ y. y) (λ y. y))
      (get_tells bounds h good before n l b a answers)
  shows n (body.Scan b) l a legal holds answers =
      shows_by n (body.Scan b) l a (rises_quiet n (body.Scan b) l a (λ y. y) (λ y. y))
      (scan_tells bounds h good before n l b a answers)
  shows n (body.Prewrite b) l a legal holds answers =
      shows_by n (body.Prewrite b) l a
      (subst (λ m. Rises m (body.Prewrite b) l a) holds
      (rises_prewrite b l a (subst (λ m. Answers (left h m) l (last h) (body.Prewrite b) a) (sym holds) answers)))
      (prewrite_tells bounds h good before n l b a answers)
  shows n (body.Commit b) l a legal holds answers =
      shows_by n (body.Commit b) l a (rises_quiet n (body.Commit b) l a (λ y. y) (λ y. y))
      (commit_tells bounds h good before n l b a answers)
  shows n (body.BatchRollback b) l a legal holds answers =
      shows_by n (body.BatchRollback b) l a (rises_quiet n (body.BatchRollback b) l a (λ y. y) (λ y. y))
      (rollback_tells bounds h good before n l b a answers)
  shows n (body.TxnHeartBeat b) l a legal holds answers =
      shows_by n (body.TxnHeartBeat b) l a (rises_quiet n (body.TxnHeartBeat b) l a (λ y. y) (λ y. y))
      (heart_beat_tells bounds h good before n l b a answers)
  shows n (body.CheckTxnStatus b) l a legal holds answers =
      subst (λ m. Shows m (body.CheckTxnStatus b) l a) holds
      (shows_status b l legal a
      (subst (λ m. Answers (left h m) l (last h) (body.CheckTxnStatus b) a) (sym holds) answers))
  shows n (body.CheckSecondaryLocks b) l a legal holds answers =
      shows_by n (body.CheckSecondaryLocks b) l a (rises_quiet n (body.CheckSecondaryLocks b) l a (λ y. y) (λ y. y))
      (secondary_tells bounds h good before n l b a answers)
  shows n (body.ResolveLock b) l a legal holds answers =
      shows_by n (body.ResolveLock b) l a (rises_quiet n (body.ResolveLock b) l a (λ y. y) (λ y. y))
      (resolve_tells bounds h good before n l b a answers)
  shows n (body.RaiseSafe b) l a legal holds answers =
      shows_by n (body.RaiseSafe b) l a (rises_quiet n (body.RaiseSafe b) l a (λ y. y) (λ y. y))
      (raise_tells bounds h good before n l b a answers)
  shows n (body.LocksBelow b) l a legal holds answers =
      shows_by n (body.LocksBelow b) l a (rises_quiet n (body.LocksBelow b) l a (λ y. y) (λ y. y))
      (locks_tell bounds h good before n l b a answers)
  shows n (body.Collect b) l a legal holds answers =
      shows_by n (body.Collect b) l a (rises_quiet n (body.Collect b) l a (λ y. y) (λ y. y))
      (collect_tells bounds h good before n l b a answers)

  -- ---- every event

  -- an acceptance stays
  still : (x : Taken) (t : ℕ) (k : Key) (by : Acceptance) → accepted h t k ≡ Some by
      → accepted (Took x ∷ h) t k ≡ Some by
  still x = accepted_on h (Took x ∷ h) (inr (begins_all h))

  told_took : (x : Taken) → IsLegallyTaken bounds h x → ToldShown bounds (Took x ∷ h)
  told_took x may =
      let new = shows x.region x.body x.loaded x.answer may.legal may.holds may.answers in
      record {
        routed = stays_routed bounds h before x.region x.body x.loaded x.answer may.holds;
        told = λ by among info c.
            elim among [
              | inl now ↦ (let same : x ≡ by = cc (now) in
                  let is = new.tells info (subst (λ (y : Taken). Contains (infos_in y.answer) info) (sym same) c) in (
                    is.0,
                    promised_on (accepted h) (accepted (Took x ∷ h)) (shown_in (Took x ∷ h))
                        (shown_in (Took x ∷ h)) info.start info.min (omega arith) (still x info.start) is.1,
                  ))
              | inr old ↦ (let was = before.told by old info c in (
                was.0,
                promised_on (accepted h) (accepted (Took x ∷ h)) (shown_in h) (shown_in (Took x ∷ h))
                    info.start info.min (new.rises info.start) (still x info.start) was.1,
              ))
            ];
      }

  told_declared : (d : Declaration) → declared h d.start ≡ None → ToldShown bounds (Declared d ∷ h)
  told_declared d once =
      record {
        routed = before.routed;
        told = λ by among info c.
            elim among [
              | inl now ↦ absurd (cc (now))
              | inr old ↦ (let was = before.told by old info c in
                  elim (nat_test d.start info.start) [
                    | inl x ↦ absurd (was.0 (subst (λ u. declared h u ≡ None) x.1 once))
                    | inr x ↦ rw x.0 was
                  ])
            ];
      }

  pub told_next : (e : Event) → IsLegal bounds h e → ToldShown bounds (e ∷ h)
  told_next (Took x) may = told_took x may
  told_next (Declared d) may = told_declared d may.once
  told_next (Drawn seat n) may =
      record {
        routed = before.routed;
        told =
            λ by among info c. elim among [ inl now ↦ absurd (cc (now)) | inr old ↦ before.told by old info c ];
      }
  told_next (Began t) may =
      record {
        routed = before.routed;
        told =
            λ by among info c. elim among [ inl now ↦ absurd (cc (now)) | inr old ↦ before.told by old info c ];
      }
  told_next (Answered t o) may =
      record {
        routed = before.routed;
        told =
            λ by among info c. elim among [ inl now ↦ absurd (cc (now)) | inr old ↦ before.told by old info c ];
      }
  told_next (Stopped seat) may =
      record {
        routed = before.routed;
        told =
            λ by among info c. elim among [ inl now ↦ absurd (cc (now)) | inr old ↦ before.told by old info c ];
      }

-- who had a lock that was told of commits at or above its minimum
pub told_promised : (bounds : List Key) (h : History) → ToldShown bounds h → (info : LockInfo) → WasToldOf h info
    → IsPromised (accepted h) (shown_in h) info.start info.min
told_promised bounds h before info was = (before.told was.by was.among info was.told).1
