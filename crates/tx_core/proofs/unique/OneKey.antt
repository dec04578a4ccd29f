-- The commands of one key have one answer each, and so has the rise of a safe point: in each case
-- of their tables what the answer names is the only one of its kind.
use Rattle.std.proofs.Common.{◌≡◌, ℕ, Option, Some, sym, subst, ◌∙◌, arith}
use Rattle.std.specs.Prelude.{max}
use Rattle.tx_types.specs.declared.mutation.Fate.{Fate}
use Rattle.tx_types.specs.declared.mutation.Fate.TheVariants as fate
use Rattle.tx_plan.specs.declared.body.Get.{Get}
use Rattle.tx_plan.specs.declared.body.Prewrite.{Prewrite}
use Rattle.tx_plan.specs.declared.body.Commit.{Commit}
use Rattle.tx_plan.specs.declared.body.BatchRollback.{BatchRollback}
use Rattle.tx_plan.specs.declared.body.TxnHeartBeat.{TxnHeartBeat}
use Rattle.tx_plan.specs.declared.body.CheckTxnStatus.{CheckTxnStatus}
use Rattle.tx_plan.specs.declared.body.CheckSecondaryLocks.{CheckSecondaryLocks}
use Rattle.tx_plan.specs.declared.body.ResolveLock.{ResolveLock}
use Rattle.tx_plan.specs.declared.body.RaiseSafe.{RaiseSafe}
use Rattle.tx_plan.specs.declared.answer.Answer.{Answer}
use Rattle.tx_plan.specs.declared.answer.Answer.TheVariants.{Prewritten, KeyIsLocked, WriteConflict, AlreadyCommitted, Committed, Ttl, Locked, Resolved}
use Rattle.tx_plan.specs.Tables.{Case}
use Rattle.tx_plan.specs.Cells.{Lock, CommitRecord, CommitOf, Writes, Cells, info_of}
use Rattle.tx_plan.specs.Reads.{read_answer}
use Rattle.tx_plan.specs.Own.{OwnCommit}
use Rattle.tx_plan.specs.cases.Get.{AnswersGet}
use Rattle.tx_plan.specs.cases.Prewrite.{IsWithin, named_minimum, NewestAbove, AnswersPrewrite}
use Rattle.tx_plan.specs.cases.Commit.{CommitsLock, AnswersCommit}
use Rattle.tx_plan.specs.cases.BatchRollback.{AnswersBatchRollback}
use Rattle.tx_plan.specs.cases.TxnHeartBeat.{AnswersTxnHeartBeat}
use Rattle.tx_plan.specs.cases.CheckTxnStatus.{ChecksLock, AnswersCheckTxnStatus}
use Rattle.tx_plan.specs.cases.CheckSecondaryLocks.{AnswersCheckSecondaryLocks}
use Rattle.tx_plan.specs.cases.ResolveLock.{ResolvesLock, AnswersResolveLock}
use Rattle.tx_plan.specs.cases.RaiseSafe.{AnswersRaiseSafe}
use Rattle.tx_core.proofs.unique.Cases.{one_case, one_case_of, same, alike, one_lock, one_record, one_read}

-- at most one commit record of a transaction is on a key
abbrev pub OneCommit : Writes → ℕ → Type 0
OneCommit write t = (c d : ℕ) → OwnCommit write t c → OwnCommit write t d → c ≡ d

-- ---- reads

pub one_get : (cells : Cells) (safe loaded : ℕ) (q : Get) (a b : Answer) → AnswersGet cells safe loaded q a
    → AnswersGet cells safe loaded q b → a ≡ b
one_get cells safe loaded q a b =
    one_case (same _ a b)
    (one_case (same _ a b)
    (one_case_of (λ lock also x y. alike (λ l. KeyIsLocked (info_of q.key l)) lock also a b
    (one_lock cells.lock lock also x.stands y.stands))
    (λ x y. alike read_answer x.0 y.0 a b (one_read cells.write q.at x.0 y.0 x.2 y.2) x.1 y.1)))

-- ---- prewrites

-- one commit record is the newest
one_newest : (write : Writes) (t s c u d : ℕ) → NewestAbove write t s c → NewestAbove write t u d → (s ≡ u) × (c ≡ d)
one_newest write t s c u d x y =
    let at : d ≡ c = omega (arith, x.newest d y.rec y.stands, y.newest c x.rec x.stands) in
    let rec : x.rec ≡ y.rec =
    one_record write c x.rec y.rec x.stands (subst (λ n. write n ≡ Some (CommitOf y.rec)) at y.stands) in
    (cc (rec, x.of, y.of), sym at)

one_conflict : (write : Writes) (t : ℕ) (a b : Answer) → (s c : ℕ) × NewestAbove write t s c × (a ≡ WriteConflict s c)
    → (u d : ℕ) × NewestAbove write t u d × (b ≡ WriteConflict u d) → a ≡ b
one_conflict write t a b (s, c, x, is) (u, d, y, also) =
    let e = one_newest write t s c u d x y in
    cc (e.0, e.1, is, also)

-- the least minimum is one, and the answer by it
one_minimum : (max_commit : Option ℕ) (least m n : ℕ) (a b : Answer) → m ≡ least → n ≡ least
    → Case (IsWithin max_commit m) (a ≡ Prewritten m) (a ≡ Prewritten 0)
    → Case (IsWithin max_commit n) (b ≡ Prewritten n) (b ≡ Prewritten 0) → a ≡ b
one_minimum max_commit least m n a b is also x y =
    one_case (same (Prewritten m) a b) (same (Prewritten 0) a b) x
    (subst (λ k. Case (IsWithin max_commit k) (b ≡ Prewritten k) (b ≡ Prewritten 0)) (also ∙ sym is) y)

pub one_prewrite : (cells : Cells) (safe loaded least : ℕ) (q : Prewrite) (a b : Answer) → OneCommit cells.write q.start
    → AnswersPrewrite cells safe loaded (λ m. m ≡ least) q a → AnswersPrewrite cells safe loaded (λ m. m ≡ least) q b
    → a ≡ b
one_prewrite cells safe loaded least q a b own =
    one_case (same _ a b)
    (one_case (same _ a b)
    (one_case_of (λ lock also x y. alike (λ l. Prewritten (named_minimum l)) lock also a b
    (one_lock cells.lock lock also x.stands y.stands))
    (one_case (same _ a b)
    (one_case_of (λ c d x y. alike AlreadyCommitted c d a b (own c d x y))
    (one_case_of (λ lock also x y. alike (λ l. KeyIsLocked (info_of q.key l)) lock also a b
    (one_lock cells.lock lock also x y))
    (one_case (one_conflict cells.write q.start a b)
    (one_case (same _ a b)
    (one_case (λ x y. one_minimum q.max_commit least x.0 y.0 a b x.1 y.1 x.2 y.2)
    (same _ a b)))))))))

-- ---- commits, and locks that are resolved

one_settling : (write : Writes) (start commit : ℕ) (lock also : Lock) (done a b : Answer) → lock ≡ also
    → CommitsLock write start commit lock done a → CommitsLock write start commit also done b → a ≡ b
one_settling write start commit lock also done a b e x y =
    one_case (same _ a b)
    (one_case_of (λ r s z w. alike (λ (rec : CommitRecord). WriteConflict rec.start commit) r s a b
    (one_record write commit r s z.stands w.stands))
    (same done a b)) x (subst (λ l. CommitsLock write start commit l done b) (sym e) y)

pub one_commit : (cells : Cells) (collected : ℕ) (q : Commit) (a b : Answer) → OneCommit cells.write q.start
    → AnswersCommit cells collected q a → AnswersCommit cells collected q b → a ≡ b
one_commit cells collected q a b own =
    one_case (same _ a b)
    (one_case_of (λ lock also x y. one_settling cells.write q.start q.commit lock also (Committed q.commit) a b
    (one_lock cells.lock lock also x.stands y.stands))
    (one_case_of (λ c d x y. alike Committed c d a b (own c d x y))
    (one_case (same _ a b)
    (same _ a b))))

one_resolving : (write : Writes) (start : ℕ) (lock also : Lock) (f : Fate) (a b : Answer) → lock ≡ also
    → ResolvesLock write start lock f a → ResolvesLock write start also f b → a ≡ b
one_resolving write start lock also fate.Aborted a b e x y = same Resolved a b x y
one_resolving write start lock also (fate.Committed c) a b e x y =
    one_settling write start c lock also Resolved a b e x y

pub one_resolve : (cells : Cells) (collected : ℕ) (q : ResolveLock) (a b : Answer)
    → AnswersResolveLock cells collected q a → AnswersResolveLock cells collected q b → a ≡ b
one_resolve cells collected q a b =
    one_case (same _ a b)
    (one_case_of (λ lock also x y. one_resolving cells.write q.start lock also q.fate a b
    (one_lock cells.lock lock also x.stands y.stands))
    (same _ a b))

-- ---- rollbacks and heart beats

pub one_rollback : (cells : Cells) (collected : ℕ) (q : BatchRollback) (a b : Answer) → OneCommit cells.write q.start
    → AnswersBatchRollback cells collected q a → AnswersBatchRollback cells collected q b → a ≡ b
one_rollback cells collected q a b own =
    one_case (same _ a b)
    (one_case_of (λ lock also x y. same _ a b)
    (one_case_of (λ c d x y. alike AlreadyCommitted c d a b (own c d x y))
    (same _ a b)))

pub one_heart_beat : (cells : Cells) (collected : ℕ) (q : TxnHeartBeat) (a b : Answer)
    → AnswersTxnHeartBeat cells collected q a → AnswersTxnHeartBeat cells collected q b → a ≡ b
one_heart_beat cells collected q a b =
    one_case (same _ a b)
    (one_case_of (λ lock also x y. alike (λ (l : Lock). Ttl (max l.ttl q.ttl)) lock also a b
    (one_lock cells.lock lock also x.stands y.stands))
    (same _ a b))

-- ---- checks

one_checking : (q : CheckTxnStatus) (lock also : Lock) (a b : Answer) → lock ≡ also → ChecksLock q lock a
    → ChecksLock q also b → a ≡ b
one_checking q lock also a b e x y =
    one_case (same _ a b)
    (one_case (same _ a b)
    (one_case (same _ a b)
    (same _ a b))) x (subst (λ l. ChecksLock q l b) (sym e) y)

pub one_check_status : (cells : Cells) (collected loaded : ℕ) (q : CheckTxnStatus) (a b : Answer)
    → OneCommit cells.write q.start → AnswersCheckTxnStatus cells collected loaded q a
    → AnswersCheckTxnStatus cells collected loaded q b → a ≡ b
one_check_status cells collected loaded q a b own =
    one_case (same _ a b)
    (one_case (same _ a b)
    (one_case_of (λ lock also x y. one_checking q lock also a b (one_lock cells.lock lock also x.stands y.stands))
    (one_case_of (λ c d x y. alike Committed c d a b (own c d x y))
    (one_case (same _ a b)
    (one_case (same _ a b)
    (same _ a b))))))

pub one_check_secondary : (cells : Cells) (collected : ℕ) (q : CheckSecondaryLocks) (a b : Answer)
    → OneCommit cells.write q.start → AnswersCheckSecondaryLocks cells collected q a
    → AnswersCheckSecondaryLocks cells collected q b → a ≡ b
one_check_secondary cells collected q a b own =
    one_case (same _ a b)
    (one_case_of (λ lock also x y. alike (λ l. Locked (info_of q.key l)) lock also a b
    (one_lock cells.lock lock also x.stands y.stands))
    (one_case_of (λ c d x y. alike Committed c d a b (own c d x y))
    (same _ a b)))

-- ---- safe points

pub one_raise : (safe loaded : ℕ) (q : RaiseSafe) (a b : Answer) → AnswersRaiseSafe safe loaded q a
    → AnswersRaiseSafe safe loaded q b → a ≡ b
one_raise safe loaded q a b =
    one_case (same _ a b)
    (one_case (same _ a b)
    (same _ a b))
