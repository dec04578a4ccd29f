-- What each answer leaves of its key, by its case table: later cells, which meet what all cells
-- meet.
use Rattle.std.proofs.Common.{◌≡◌, ◌⊎◌, ℕ, max, ◌+◌, ◌<◌, ◌≤◌, ◌==◌, inl, inr, Option, Some, None, refl, sym, ap, subst, ◌∙◌, arith}
use Rattle.std.proofs.lemmas.Bool.{cases_Bool, cases_lt, eqb-true, eqb-false, eq-eqb}
use Rattle.tx_types.specs.declared.mutation.Fate.TheVariants as fate
use Rattle.tx_plan.specs.declared.body.Prewrite.{Prewrite}
use Rattle.tx_plan.specs.declared.body.Commit.{Commit}
use Rattle.tx_plan.specs.declared.body.BatchRollback.{BatchRollback}
use Rattle.tx_plan.specs.declared.body.TxnHeartBeat.{TxnHeartBeat}
use Rattle.tx_plan.specs.declared.body.CheckTxnStatus.{CheckTxnStatus}
use Rattle.tx_plan.specs.declared.body.CheckSecondaryLocks.{CheckSecondaryLocks}
use Rattle.tx_plan.specs.declared.body.ResolveLock.{ResolveLock}
use Rattle.tx_plan.specs.declared.answer.Answer.{Answer}
use Rattle.tx_plan.specs.declared.answer.Answer.TheVariants.{Committed, Prewritten, RolledBack, Missing, Locked, Ttl, Resolved, KeyIsLocked, WriteConflict, AlreadyRolledBack, AlreadyCommitted, CommitTsExpired, TxnLockNotFound, BelowSafePoint, FutureTimestamp, TxnNotFound, AlreadyExists}
use Rattle.tx_plan.specs.Cells.{Lock, CommitRecord, Cells, info_of, with_lock}
use Rattle.tx_plan.specs.Own.{OwnLock, OwnCommit, OthersCommit, OwnRollback, on_own_lock, roll_back, lock_committed, commit_lock}
use Rattle.tx_plan.specs.cases.Prewrite.{AnswersPrewrite, lock_of, named_minimum}
use Rattle.tx_plan.specs.cases.Commit.{AnswersCommit}
use Rattle.tx_plan.specs.cases.BatchRollback.{AnswersBatchRollback}
use Rattle.tx_plan.specs.cases.TxnHeartBeat.{AnswersTxnHeartBeat, with_ttl}
use Rattle.tx_plan.specs.cases.CheckTxnStatus.{AnswersCheckTxnStatus, ChecksLock, with_minimum}
use Rattle.tx_plan.specs.cases.CheckSecondaryLocks.{AnswersCheckSecondaryLocks}
use Rattle.tx_plan.specs.cases.ResolveLock.{AnswersResolveLock, ResolvesLock, resolve}
use Rattle.tx_core.specs.Later.{IsRegular}
use Rattle.tx_core.proofs.evolution.Keys.{IsFine, fine_same, put_fine, lengthen_fine, commit_fine, roll_back_fine, leave_fine}
use Rattle.tx_plan.specs.Answers.{leaves_on}
use Rattle.tx_plan.specs.declared.body.Body.TheVariants as asked

none_is : (o : Option Lock) → ((x : Lock) → o ≡ Some x → ⊥) → o ≡ None
none_is None never = refl
none_is (Some x) never = absurd (never x refl)

at_least : (m n : ℕ) → (m < n → ⊥) → n ≤ m
at_least m n never = elim (cases_lt m n) [ inl lt ↦ absurd (never lt) | inr le ↦ le ]

-- its lock is there, or not
pub own_is : (cells : Cells) (t : ℕ) (f : Lock → Cells) (lock : Lock) → OwnLock cells.lock t lock
    → on_own_lock cells t f ≡ f lock
own_is cells t f lock own = rw (own.stands, eq-eqb lock.start t own.own) refl

pub own_none : (cells : Cells) (t : ℕ) (f : Lock → Cells) → ((lock : Lock) → OwnLock cells.lock t lock → ⊥)
    → on_own_lock cells t f ≡ cells
own_none cells t f unlocked = go cells.lock refl
  where
    go : (o : Option Lock) → cells.lock ≡ o → on_own_lock cells t f ≡ cells
    go None e = rw e refl
    go (Some lock) e = elim (cases_Bool (lock.start == t)) [
      | inl x ↦
          absurd (unlocked lock (record { stands = e; own = eqb-true lock.start t x }))
      | inr x ↦ rw (e, x) refl
    ]

module _ (s : ℕ) (cells : Cells) (is : IsRegular s cells) where
  abbrev Fine : Cells → Type 0
  Fine new = IsFine s cells new

  stays : Fine cells
  stays = fine_same s cells is

  by : (old new : Cells) → new ≡ old → Fine old → Fine new
  by old new e f = subst Fine (sym e) f

  -- ---- Commit, and what it shares with ResolveLock

  settles : (t c : ℕ) (lock : Lock) → OwnLock cells.lock t lock → (t < s → ⊥) → (c < lock.min → ⊥)
      → ((rec : CommitRecord) → OthersCommit cells.write t c rec → ⊥) → Fine (commit_lock cells t c)
  settles t c lock own fresh high free =
      by (lock_committed cells c lock) (commit_lock cells t c) (own_is cells t (λ l. lock_committed cells c l) lock own)
      (commit_fine s cells lock c is own.stands (let from = at_least t s fresh in
      omega (arith, from, own.own)) high
      (λ rec other. free rec record { stands = other.stands; other = λ same. other.other (same ∙ sym own.own) }))

  module _ (b : Commit) where
    to_commit : (a x : Answer) → a ≡ x → Fine (leaves_on cells (asked.Commit b) x)
        → Fine (leaves_on cells (asked.Commit b) a)
    to_commit a x e f = subst (λ y. Fine (leaves_on cells (asked.Commit b) y)) (sym e) f

    pub fine_commit : (a : Answer) → AnswersCommit cells s b a → Fine (leaves_on cells (asked.Commit b) a)
    fine_commit a (inl x) = to_commit a (BelowSafePoint s) x.1 stays
    fine_commit a (inr (no0, inl (lock, own, inl x))) = to_commit a (CommitTsExpired lock.min) x.1 stays
    fine_commit a (inr (no0, inl (lock, own, inr (no1, inl (rec, x, e))))) =
        to_commit a (WriteConflict rec.start b.commit) e stays
    fine_commit a (inr (no0, inl (lock, own, inr (no1, inr (no2, e))))) =
        to_commit a (Committed b.commit) e (settles b.start b.commit lock own no0 no1 no2)
    fine_commit a (inr (no0, inr (no1, inl (c, own, e)))) =
        to_commit a (Committed c) e
        (by cells (commit_lock cells b.start b.commit)
        (own_none cells b.start (λ l. lock_committed cells b.commit l) no1) stays)
    fine_commit a (inr (no0, inr (no1, inr (no2, inl x)))) = to_commit a AlreadyRolledBack x.1 stays
    fine_commit a (inr (no0, inr (no1, inr (no2, inr (no3, e))))) = to_commit a TxnLockNotFound e stays

  -- ---- BatchRollback

  module _ (b : BatchRollback) where
    to_batch : (a x : Answer) → a ≡ x → Fine (leaves_on cells (asked.BatchRollback b) x)
        → Fine (leaves_on cells (asked.BatchRollback b) a)
    to_batch a x e f = subst (λ y. Fine (leaves_on cells (asked.BatchRollback b) y)) (sym e) f

    pub fine_batch_rollback : (a : Answer) → AnswersBatchRollback cells s b a
        → Fine (leaves_on cells (asked.BatchRollback b) a)
    fine_batch_rollback a (inl x) = to_batch a (BelowSafePoint s) x.1 stays
    fine_batch_rollback a (inr (no0, inl (lock, own, e))) =
        to_batch a RolledBack e (roll_back_fine s cells b.start is (at_least b.start s no0))
    fine_batch_rollback a (inr (no0, inr (no1, inl (c, own, e)))) = to_batch a (AlreadyCommitted c) e stays
    fine_batch_rollback a (inr (no0, inr (no1, inr (no2, e)))) =
        to_batch a RolledBack e (roll_back_fine s cells b.start is (at_least b.start s no0))

  -- ---- TxnHeartBeat

  module _ (b : TxnHeartBeat) where
    to_beat : (a x : Answer) → a ≡ x → Fine (leaves_on cells (asked.TxnHeartBeat b) x)
        → Fine (leaves_on cells (asked.TxnHeartBeat b) a)
    to_beat a x e f = subst (λ y. Fine (leaves_on cells (asked.TxnHeartBeat b) y)) (sym e) f

    pub fine_txn_heart_beat : (a : Answer) → AnswersTxnHeartBeat cells s b a
        → Fine (leaves_on cells (asked.TxnHeartBeat b) a)
    fine_txn_heart_beat a (inl x) = to_beat a (BelowSafePoint s) x.1 stays
    fine_txn_heart_beat a (inr (no0, inl (lock, own, e))) =
        let new = with_ttl lock (max lock.ttl b.ttl) in
        to_beat a (Ttl (max lock.ttl b.ttl)) e
        (by (with_lock cells (Some new)) _
        (own_is cells b.start (λ l. with_lock cells (Some (with_ttl l (max lock.ttl b.ttl)))) lock own)
        (lengthen_fine s cells lock new is own.stands record {
          mutation = refl;
          mode = refl;
          secondaries = refl;
          start =
              refl;
          min = omega arith;
          ttl = omega arith;
          primary = refl;
        }))
    fine_txn_heart_beat a (inr (no0, inr (no1, e))) = to_beat a TxnLockNotFound e stays

  -- ---- CheckTxnStatus

  module _ (b : CheckTxnStatus) where
    to_check : (a x : Answer) → a ≡ x → Fine (leaves_on cells (asked.CheckTxnStatus b) x)
        → Fine (leaves_on cells (asked.CheckTxnStatus b) a)
    to_check a x e f = subst (λ y. Fine (leaves_on cells (asked.CheckTxnStatus b) y)) (sym e) f

    -- it is told, with a minimum that is no smaller
    tells : (lock : Lock) (m : ℕ) → OwnLock cells.lock b.start lock → lock.min ≤ m
        → Fine (leaves_on cells (asked.CheckTxnStatus b) (Locked (info_of b.key (with_minimum lock m))))
    tells lock m own more =
        by (with_lock cells (Some (with_minimum lock m))) _
        (own_is cells b.start (λ l. with_lock cells (Some (with_minimum l m))) lock own)
        (lengthen_fine s cells lock (with_minimum lock m) is own.stands record {
          mutation = refl;
          mode =
              refl;
          secondaries = refl;
          start = refl;
          min = more;
          ttl = omega arith;
          primary = refl;
        })

    checks : (lock : Lock) → OwnLock cells.lock b.start lock → (b.start < s → ⊥) → (a : Answer) → ChecksLock b lock a
        → Fine (leaves_on cells (asked.CheckTxnStatus b) a)
    checks lock own fresh a (inl x) =
        to_check a (Locked (info_of b.key lock)) x.1 (tells lock lock.min own (omega arith))
    checks lock own fresh a (inr (no0, inl x)) =
        to_check a RolledBack x.1 (roll_back_fine s cells b.start is (at_least b.start s fresh))
    checks lock own fresh a (inr (no0, inr (no1, inl x))) =
        to_check a (Locked (info_of b.key (with_minimum lock (b.caller + 1)))) x.1
        (tells lock (b.caller + 1) own (omega (arith, x.0)))
    checks lock own fresh a (inr (no0, inr (no1, inr (no2, e)))) =
        to_check a (Locked (info_of b.key lock)) e (tells lock lock.min own (omega arith))

    pub fine_check_txn_status : (loaded : ℕ) (a : Answer) → AnswersCheckTxnStatus cells s loaded b a
        → Fine (leaves_on cells (asked.CheckTxnStatus b) a)
    fine_check_txn_status l a (inl x) = to_check a (BelowSafePoint s) x.1 stays
    fine_check_txn_status l a (inr (no0, inl x)) = to_check a (FutureTimestamp l) x.1 stays
    fine_check_txn_status l a (inr (no0, inr (no1, inl (lock, own, x)))) = checks lock own no0 a x
    fine_check_txn_status l a (inr (no0, inr (no1, inr (no2, inl (c, own, e))))) = to_check a (Committed c) e stays
    fine_check_txn_status l a (inr (no0, inr (no1, inr (no2, inr (no3, inl x))))) =
        to_check a RolledBack x.1 (roll_back_fine s cells b.start is (at_least b.start s no0))
    fine_check_txn_status l a (inr (no0, inr (no1, inr (no2, inr (no3, inr (no4, inl x)))))) =
        to_check a RolledBack x.1 (roll_back_fine s cells b.start is (at_least b.start s no0))
    fine_check_txn_status l a (inr (no0, inr (no1, inr (no2, inr (no3, inr (no4, inr (no5, e))))))) =
        to_check a TxnNotFound e stays

  -- ---- CheckSecondaryLocks

  module _ (b : CheckSecondaryLocks) where
    to_secondary : (a x : Answer) → a ≡ x → Fine (leaves_on cells (asked.CheckSecondaryLocks b) x)
        → Fine (leaves_on cells (asked.CheckSecondaryLocks b) a)
    to_secondary a x e f = subst (λ y. Fine (leaves_on cells (asked.CheckSecondaryLocks b) y)) (sym e) f

    pub fine_check_secondary_locks : (a : Answer) → AnswersCheckSecondaryLocks cells s b a
        → Fine (leaves_on cells (asked.CheckSecondaryLocks b) a)
    fine_check_secondary_locks a (inl x) = to_secondary a (BelowSafePoint s) x.1 stays
    fine_check_secondary_locks a (inr (no0, inl (lock, own, e))) = to_secondary a (Locked (info_of b.key lock)) e stays
    fine_check_secondary_locks a (inr (no0, inr (no1, inl (c, own, e)))) = to_secondary a (Committed c) e stays
    fine_check_secondary_locks a (inr (no0, inr (no1, inr (no2, e)))) =
        to_secondary a Missing e (leave_fine s cells b.start is (at_least b.start s no0) no1)

  -- ---- ResolveLock

  module _ (b : ResolveLock) where
    to_resolve : (a x : Answer) → a ≡ x → Fine (leaves_on cells (asked.ResolveLock b) x)
        → Fine (leaves_on cells (asked.ResolveLock b) a)
    to_resolve a x e f = subst (λ y. Fine (leaves_on cells (asked.ResolveLock b) y)) (sym e) f

    resolved : Answer → Type 0
    resolved a = Fine (leaves_on cells (asked.ResolveLock b) a)

    resolves : (lock : Lock) → OwnLock cells.lock b.start lock → (b.start < s → ⊥) → (f : _) → b.fate ≡ f → (a : Answer)
        → ResolvesLock cells.write b.start lock f a → Fine (leaves_on cells (asked.ResolveLock b) a)
    resolves lock own fresh fate.Aborted is_fate a e =
        to_resolve a Resolved e
        (by (roll_back cells b.start) _ (ap (resolve cells b.start) is_fate
        ∙ own_is cells b.start (λ l. roll_back cells b.start) lock own)
        (roll_back_fine s cells b.start is (at_least b.start s fresh)))
    resolves lock own fresh (fate.Committed c) is_fate a (inl x) = to_resolve a (CommitTsExpired lock.min) x.1 stays
    resolves lock own fresh (fate.Committed c) is_fate a (inr (no1, inl (rec, x, e))) =
        to_resolve a (WriteConflict rec.start c) e stays
    resolves lock own fresh (fate.Committed c) is_fate a (inr (no1, inr (no2, e))) =
        to_resolve a Resolved e
        (by (commit_lock cells b.start c) _ (ap (resolve cells b.start) is_fate)
        (settles b.start c lock own fresh no1 no2))

    nothing : ((lock : Lock) → OwnLock cells.lock b.start lock → ⊥) → (f : _) → b.fate ≡ f
        → resolve cells b.start f ≡ cells
    nothing unlocked fate.Aborted e = own_none cells b.start (λ l. roll_back cells b.start) unlocked
    nothing unlocked (fate.Committed c) e = own_none cells b.start (λ l. lock_committed cells c l) unlocked

    pub fine_resolve_lock : (a : Answer) → AnswersResolveLock cells s b a
        → Fine (leaves_on cells (asked.ResolveLock b) a)
    fine_resolve_lock a (inl x) = to_resolve a (BelowSafePoint s) x.1 stays
    fine_resolve_lock a (inr (no0, inl (lock, own, x))) = resolves lock own no0 b.fate refl a x
    fine_resolve_lock a (inr (no0, inr (no1, e))) =
        to_resolve a Resolved e (by cells (resolve cells b.start b.fate) (nothing no1 b.fate refl) stays)

  -- ---- Prewrite

  module _ (b : Prewrite) where
    to_prewrite : (a x : Answer) → a ≡ x → Fine (leaves_on cells (asked.Prewrite b) x)
        → Fine (leaves_on cells (asked.Prewrite b) a)
    to_prewrite a x e f = subst (λ y. Fine (leaves_on cells (asked.Prewrite b) y)) (sym e) f

    above_start : (m : ℕ) → (m ≡ 0) ⊎ (b.start < m) → b.start < (lock_of b m).min
    above_start m x =
        elim (cases_Bool (m == 0)) [
          | inl e ↦ rw e (omega arith)
          | inr e ↦ rw e (elim x [ inl none ↦ absurd (eqb-false m 0 e none) | inr lt ↦ lt ])
        ]

    locks : (m : ℕ) → ((lock : Lock) → cells.lock ≡ Some lock → ⊥) → ((c : ℕ) → OwnCommit cells.write b.start c → ⊥)
        → (OwnRollback cells.write b.start → ⊥) → (m ≡ 0) ⊎ (b.start < m)
        → Fine (leaves_on cells (asked.Prewrite b) (Prewritten m))
    locks m unlocked uncommitted unrolled above =
        let free : cells.lock ≡ None = none_is cells.lock unlocked in
        by (with_lock cells (Some (lock_of b m))) _ (rw free refl)
        (put_fine s cells (lock_of b m) is free uncommitted unrolled (above_start m above))

    pub fine_prewrite : (safe loaded : ℕ) (Promise : ℕ → Type 0) → ((m : ℕ) → Promise m → b.start < m) → (a : Answer)
        → AnswersPrewrite cells safe loaded Promise b a → Fine (leaves_on cells (asked.Prewrite b) a)
    fine_prewrite safe l P low a (inl x) = to_prewrite a (BelowSafePoint safe) x.1 stays
    fine_prewrite safe l P low a (inr (no0, inl x)) = to_prewrite a (FutureTimestamp l) x.1 stays
    fine_prewrite safe l P low a (inr (no0, inr (no1, inl (lock, own, e)))) =
        to_prewrite a (Prewritten (named_minimum lock)) e (by cells _ (rw own.stands refl) stays)
    fine_prewrite safe l P low a (inr (no0, inr (no1, inr (no2, inl x)))) = to_prewrite a AlreadyRolledBack x.1 stays
    fine_prewrite safe l P low a (inr (no0, inr (no1, inr (no2, inr (no3, inl (c, own, e)))))) =
        to_prewrite a (AlreadyCommitted c) e stays
    fine_prewrite safe l P low a (inr (no0, inr (no1, inr (no2, inr (no3, inr (no4, inl (lock, stands, e))))))) =
        to_prewrite a (KeyIsLocked (info_of b.key lock)) e stays
    fine_prewrite safe l P low a
        (inr (no0, inr (no1, inr (no2, inr (no3, inr (no4, inr (no5, inl (some, (start, c, newest, e))))))))) =
        to_prewrite a (WriteConflict start c) e stays
    fine_prewrite safe l P low a
        (inr (no0, inr (no1, inr (no2, inr (no3, inr (no4, inr (no5, inr (no6, inl (finds, e))))))))) =
        to_prewrite a AlreadyExists e stays
    fine_prewrite safe l P low a
        (inr (
          no0,
          inr (
            no1,
            inr (
              no2,
              inr (no3, inr (no4, inr (no5, inr (no6, inr (no7, inl (mode, (m, p, inl x))))))),
            ),
          ),
        )) =
        to_prewrite a (Prewritten m) x.1 (locks m no5 no4 no3 (inr (low m p)))
    fine_prewrite safe l P low a
        (inr (
          no0,
          inr (
            no1,
            inr (
              no2,
              inr (no3, inr (no4, inr (no5, inr (no6, inr (no7, inl (mode, (m, p, inr x))))))),
            ),
          ),
        )) =
        to_prewrite a (Prewritten 0) x.1 (locks 0 no5 no4 no3 (inl refl))
    fine_prewrite safe l P low a
        (inr (no0, inr (no1, inr (no2, inr (no3, inr (no4, inr (no5, inr (no6, inr (no7, inr (no8, e)))))))))) =
        to_prewrite a (Prewritten 0) e (locks 0 no5 no4 no3 (inl refl))
